-- Actors, read and written.
use Rattle.std.proofs.Common.{◌≡◌, ℕ, ◌^◌, ◌<◌, ◌≤◌, List, [], codes, Option, Some, None, refl, sym, ap, subst, inl, inr, arith}
use Rattle.std.proofs.lemmas.List.Elements.{All-cons, All-nil}
use Rattle.std.specs.Fmt.{decimal}
use Rattle.std.specs.Option.{option_map}
use Rattle.vm_types.specs.declared.ids.ActorId.{ActorId}
use Rattle.vm_types.specs.declared.ids.ActorId.TheVariants.{Timer, Hart, Device}
use Rattle.script_words.specs.Actors.{HasActorForm, actor_of, actor_word, hart_of}
use Rattle.script_words.specs.Numbers.{is_digit, numbered}
use Rattle.script_words.specs.Words.{Lacks, bare, or_else}
use Rattle.script_words.proofs.Decimals.{decimal_digits}
use Rattle.script_words.proofs.Forms.{numbered_reads, numbered_writes}
use Rattle.script_words.proofs.Lacking.{lacks_failing}
use Rattle.script_words.proofs.Parting.{bare_reads, either, mapped}

pub first : {A : Type 0} (x y : Option A) (v : A) → x ≡ Some v → or_else x y ≡ Some v
first {A = A} x y v is = ap (λ (o : Option A). or_else o y) is

pub decimal_lacks : (n : ℕ) → n < 2 ^ 64 → Lacks 32 (decimal n)
decimal_lacks n small = lacks_failing is_digit 32 (decimal n) refl (decimal_digits n small)

-- ---- actors

abbrev pub IsActor : List ℕ → ActorId → Type 0
IsActor word actor = (word ≡ actor_word actor) × HasActorForm actor

pub actor_reads : (word : List ℕ) (actor : ActorId) → actor_of word ≡ Some actor → IsActor word actor
actor_reads word actor is =
    let timer : Option ActorId = bare (codes "t") Timer word in
    let hart : Option ActorId = option_map Hart (hart_of word) in
    let device : Option ActorId = option_map Device (numbered (codes "d") 255 word) in
    elim (either timer (or_else hart device) actor is) [
      | inl one ↦ let got = bare_reads (codes "t") word Timer actor one in subst (λ (a : ActorId). IsActor word a) (sym got.1) (got.0, tt)
      | inr more ↦ elim (either hart device actor more) [
        | inl one ↦ mapped Hart (hart_of word) actor one (λ h by made. subst (λ (a : ActorId). IsActor word a) (sym made) (numbered_reads (codes "h") word 255 h by))
        | inr one ↦ mapped Device (numbered (codes "d") 255 word) actor one (λ d by made. subst (λ (a : ActorId). IsActor word a) (sym made) (numbered_reads (codes "d") word 255 d by))
      ]
    ]

pub hart_writes : (h : ℕ) → h ≤ 255 → hart_of (actor_word (Hart h)) ≡ Some h
hart_writes h low = numbered_writes (codes "h") 255 h low (omega arith)

pub actor_writes : (actor : ActorId) → HasActorForm actor → actor_of (actor_word actor) ≡ Some actor
actor_writes Timer form = refl
actor_writes (Hart h) form = first (option_map Hart (hart_of (actor_word (Hart h)))) None (Hart h) (ap (option_map Hart) (hart_writes h form))
actor_writes (Device d) form = ap (option_map Device) (numbered_writes (codes "d") 255 d form (omega arith))

pub actor_lacks : (actor : ActorId) → HasActorForm actor → Lacks 32 (actor_word actor)
actor_lacks Timer form = All-cons (λ (c : ℕ). c ≡ 32 → ⊥) 116 [] (λ e. omega arith) (All-nil (λ (c : ℕ). c ≡ 32 → ⊥))
actor_lacks (Hart h) form = All-cons (λ (c : ℕ). c ≡ 32 → ⊥) 104 (decimal h) (λ e. omega arith) (decimal_lacks h (omega arith))
actor_lacks (Device d) form = All-cons (λ (c : ℕ). c ≡ 32 → ⊥) 100 (decimal d) (λ e. omega arith) (decimal_lacks d (omega arith))
