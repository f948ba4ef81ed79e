-- The form of a value that has other fields in a file than in memory.
use Rattle.std.specs.Prelude.{◌≡◌}
use Rattle.file_format.specs.Format.{Format}
use Rattle.file_format.specs.Readers.{made_at}
use Rattle.file_format.specs.Laws.{standing_only, variant_again}

-- The values that are made of a form that fits, by it. A form that fits stands for one value, and is what that has.
abbrev pub standing : {A B : Type 0} (make : A → B) (part : B → A) (inner : Format A)
    → ((a : A) → inner.Fits a → a ≡ part (make a)) → Format B
standing make part inner law = record {
  Fits = λ v. (v ≡ make (part v)) × inner.Fits (part v);
  bytes = λ v. inner.bytes (part v);
  puts = λ v. inner.puts (part v);
  reads = made_at make inner.reads;
  same = λ v. inner.same (part v);
  again = λ v rest fits. variant_again make part inner v rest fits.0 fits.1;
  only = standing_only make part inner law;
}
