-- No step changes the size of chunks or the planned faults.
use Rattle.std.proofs.Common.{◌≡◌, ℕ, List, [], ◌∷◌, ◌++◌, inl, inr, Option, Some, None, take, tests, rules, refl, sym, subst, ◌∙◌}
use Rattle.mes_double_faults.specs.declared.fault.EventFault.{EventFault}
use Rattle.mes_double_faults.specs.declared.fault.EventFault.TheVariants.{Lost, Repeated, Cut, Late, Muted as GoesMute}
use Rattle.mes_double_live.specs.Bodies.{BodyState, released_by, held_back, appended_by, due, Appends, next_fault, counted, SendsIf, SendsBy, BeatsIf, IsDemand}
use Rattle.mes_double_live.specs.Steps.{Step, StepsBody, LeadsBody}
use Rattle.mes_double_live.specs.Steps.Step.{handles, breaks, sends, resends, relays, reports, beats, obeys, waits, drops, releases, goes, clears, notes, takes, launches, acknowledges, kills}
use Rattle.mes_double_live.specs.declared.stream_body.Delivery.{Delivery}
use Rattle.mes_double_live.specs.declared.stream_body.Delivery.TheVariants.{Flowing, Muted, Broken}

pub record Keeps (old new : BodyState) : Type 0 where
  pub most : new.most ≡ old.most
  pub plan : new.plan ≡ old.plan

keeps-by : (old new mid : BodyState) → new ≡ mid → Keeps old mid → Keeps old new
keeps-by old new mid e keeps = subst (Keeps old) (sym e) keeps

keeps-then : (a b c : BodyState) → Keeps a b → Keeps b c → Keeps a c
keeps-then a b c first next = record { most = next.most ∙ first.most; plan = next.plan ∙ first.plan }

appended-keeps : (until : Option ℕ) (chunks : List ℕ) (old : BodyState) → Keeps old (appended_by until chunks old)
appended-keeps None chunks old = record { most = refl; plan = refl }
appended-keeps (Some time) chunks old = record { most = refl; plan = refl }

appends-keeps : (old new : BodyState) (bytes : List ℕ) → Appends old bytes new → Keeps old new
appends-keeps old new bytes by = keeps-by old new _ by.new_is (appended-keeps old.until by.chunks old)

by-keeps : (fault : Option EventFault) (now : ℕ) (old new : BodyState) (bytes : List ℕ) → SendsBy fault now old bytes new → Keeps old new
by-keeps None now old new bytes by = appends-keeps old new bytes by
by-keeps (Some Lost) now old new bytes by = keeps-by old new old by (record { most = refl; plan = refl })
by-keeps (Some Repeated) now old new bytes by = keeps-then old by.0 new (appends-keeps old by.0 bytes by.1) (appends-keeps by.0 new bytes by.2)
by-keeps (Some (Cut most)) now old new bytes by =
    keeps-then old by.0 new (appends-keeps old by.0 (take most bytes) by.1) (keeps-by by.0 new _ by.2 (record { most = refl; plan = refl }))
by-keeps (Some (Late seconds)) now old new bytes by =
    let late = appends-keeps (held_back (due now seconds) old) new bytes by in
    record { most = late.most; plan = late.plan }
by-keeps (Some GoesMute) now old new bytes by = keeps-then old by.0 new (appends-keeps old by.0 bytes by.1) (keeps-by by.0 new _ by.2 (record { most = refl; plan = refl }))

sends-keeps : (delivery : Delivery) (now : ℕ) (old new : BodyState) (bytes : List ℕ) → SendsIf delivery now old bytes new → Keeps old new
sends-keeps Flowing now old new bytes by = let sent = by-keeps (next_fault old) now (counted old) new bytes by in record { most = sent.most; plan = sent.plan }
sends-keeps Muted now old new bytes by = keeps-by old new old by (record { most = refl; plan = refl })
sends-keeps Broken now old new bytes by = keeps-by old new old by (record { most = refl; plan = refl })

beats-keeps : (delivery : Delivery) (old new : BodyState) (bytes : List ℕ) → BeatsIf delivery old bytes new → Keeps old new
beats-keeps Flowing old new bytes by = appends-keeps old new bytes by
beats-keeps Muted old new bytes by = keeps-by old new old by (record { most = refl; plan = refl })
beats-keeps Broken old new bytes by = keeps-by old new old by (record { most = refl; plan = refl })

released-keeps : (until : Option ℕ) (now : ℕ) (old : BodyState) → Keeps old (released_by until now old)
released-keeps None now old = record { most = refl; plan = refl }
released-keeps (Some time) now old = search (tests, rules)

obeys-keeps : (name : List ℕ) (old new : BodyState) → IsDemand name old new → Keeps old new
obeys-keeps name old new by = elim by [
  | inl lose ↦ keeps-by old new _ lose.1 (record { most = refl; plan = refl })
  | inr (inl twice) ↦ keeps-by old new _ twice.1 (record { most = refl; plan = refl })
  | inr (inr (inl mute)) ↦ keeps-by old new _ mute.1 (record { most = refl; plan = refl })
  | inr (inr (inr (inl speak))) ↦ keeps-by old new _ speak.1 (record { most = refl; plan = refl })
  | inr (inr (inr (inr break))) ↦ keeps-by old new _ break.1 (record { most = refl; plan = refl })
]

step-keeps : (step : Step) (old new : BodyState) → StepsBody step old new → Keeps old new
step-keeps breaks old new is = keeps-by old new old is (record { most = refl; plan = refl })
step-keeps (sends now event) old new is = sends-keeps old.delivery now old new _ is
step-keeps (resends now event) old new is = sends-keeps old.delivery now old new _ is
step-keeps (relays now event) old new is = sends-keeps old.delivery now old new _ is
step-keeps (reports now index update finishes status) old new is = sends-keeps old.delivery now old new _ is
step-keeps beats old new is = beats-keeps old.delivery old new _ is
step-keeps (obeys name) old new is = obeys-keeps name old new is
step-keeps (waits event) old new is = keeps-by old new old is (record { most = refl; plan = refl })
step-keeps (drops event) old new is = keeps-by old new old is (record { most = refl; plan = refl })
step-keeps (releases now) old new is = keeps-by old new _ is (released-keeps old.until now old)
step-keeps (goes bytes) old new is = keeps-by old new _ is.1 (record { most = refl; plan = refl })
step-keeps clears old new is = keeps-by old new _ is (record { most = refl; plan = refl })
step-keeps (notes fault) old new is = keeps-by old new _ is (record { most = refl; plan = refl })
step-keeps takes old new is = keeps-by old new _ is (record { most = refl; plan = refl })
step-keeps (launches launch tasks) old new is = keeps-by old new old is (record { most = refl; plan = refl })
step-keeps (acknowledges body) old new is = keeps-by old new old is (record { most = refl; plan = refl })
step-keeps (kills id) old new is = keeps-by old new old is (record { most = refl; plan = refl })
step-keeps (handles call given) old new is = keeps-by old new old is (record { most = refl; plan = refl })

-- the last steps begin at a body with the same size of chunks and the same planned faults
pub record Split (old new : BodyState) (steps : List Step) : Type 0 where
  pub mid : BodyState
  pub keeps : Keeps old mid
  pub leads : LeadsBody mid steps new

pub leads-split : (before steps : List Step) (old new : BodyState) → LeadsBody old (before ++ steps) new → Split old new steps
leads-split [] steps old new leads = record { mid = old; keeps = record { most = refl; plan = refl }; leads = leads }
leads-split (step ∷ before) steps old new (next, is, rest) =
    let later = leads-split before steps next new rest in
    record { mid = later.mid; keeps = keeps-then old next later.mid (step-keeps step old next is) later.keeps; leads = later.leads }
