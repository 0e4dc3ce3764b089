-- Allocations and reservations of resources.
use Rattle.std.specs.Prelude.{codes}
use Rattle.std.proofs.Common.{refl}
use Rattle.mes_model_schema.specs.Kinds.{Kind, Lawful, Returns}
use Rattle.mes_model_schema.specs.Labels.{labels, lawful_labels}
use Rattle.mes_model_schema.specs.Leaves.{texts}
use Rattle.mes_model_schema.specs.Layouts.{Layout, may_have, no_more, ◌⨾⨾◌, laid_out, kind_of, lawful_kind, returns_kind}
use Rattle.mes_model_schema.specs.KindLaws.{lawful_texts}
use Rattle.mes_model_resource.specs.declared.allocation.Allocation.{Allocation}
use Rattle.mes_model_resource.specs.declared.reservation.Reservation.{Reservation}

-- the members of an allocation; role: optional
abbrev pub allocation_layout : Layout Allocation
allocation_layout =
    laid_out (
    may_have (codes "role") texts lawful_texts
    ⨾⨾ no_more
    ) (λ x. record { role = x.0 }) (λ v. (v.role, tt)) (λ v. refl)

unfoldable pub allocation : Kind Allocation
allocation = kind_of allocation_layout

pub lawful_allocation : Lawful allocation allocation_layout.rows.steps
unfolding allocation
lawful_allocation = lawful_kind allocation_layout refl

pub allocation_back : (v : Allocation) → allocation_layout.rows.table.Back (allocation_layout.from v) → Returns allocation v
unfolding allocation
allocation_back v back = returns_kind allocation_layout refl v back

-- the members of a reservation; type, role, principal, labels: optional
abbrev pub reservation_layout : Layout Reservation
reservation_layout =
    laid_out (
    may_have (codes "type") texts lawful_texts
    ⨾⨾ may_have (codes "role") texts lawful_texts
    ⨾⨾ may_have (codes "principal") texts lawful_texts
    ⨾⨾ may_have (codes "labels") labels lawful_labels
    ⨾⨾ no_more
    ) (λ x. record { kind = x.0; role = x.1.0; principal = x.1.1.0; labels = x.1.1.1.0 }) (λ v. (v.kind, (v.role, (v.principal, (v.labels, tt))))) (λ v. refl)

unfoldable pub reservation : Kind Reservation
reservation = kind_of reservation_layout

pub lawful_reservation : Lawful reservation reservation_layout.rows.steps
unfolding reservation
lawful_reservation = lawful_kind reservation_layout refl

pub reservation_back : (v : Reservation) → reservation_layout.rows.table.Back (reservation_layout.from v) → Returns reservation v
unfolding reservation
reservation_back v back = returns_kind reservation_layout refl v back
