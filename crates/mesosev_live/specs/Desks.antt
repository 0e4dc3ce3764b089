-- What holds between an earlier state of a test master and a later one.

-- whatever state came first: what held between it and the old state holds between it and the new one
abbrev pub Keeps : {D : Type 0} → (D → D → Type 0) → D → D → Type 0
Keeps {D} follows old new = (first : D) → follows first old → follows first new
