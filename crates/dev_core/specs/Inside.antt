-- A result of no matter.

abbrev pub Any : {A : Type 0} → A → Type 0
Any a = Unit {0}
