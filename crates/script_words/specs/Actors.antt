-- Who a line names, as it is read and written.
use Rattle.std.specs.Prelude.{ℕ, ◌≤◌, List, ◌++◌, codes, Option, option_map}
use Rattle.std.specs.Fmt.{decimal}
use Rattle.vm_types.specs.declared.ids.ActorId.{ActorId}
use Rattle.vm_types.specs.declared.ids.ActorId.TheVariants.{Timer, Hart, Device}
use Rattle.script_words.specs.Numbers.{numbered}
use Rattle.script_words.specs.Words.{bare, or_else}

-- `t`, `hK` and `dK`, K of 8 bits
abbrev pub hart_of : List ℕ → Option ℕ
hart_of word = numbered (codes "h") 255 word

abbrev pub actor_of : List ℕ → Option ActorId
actor_of word =
    or_else (bare (codes "t") Timer word)
    (or_else (option_map Hart (hart_of word)) (option_map Device (numbered (codes "d") 255 word)))

abbrev pub actor_word : ActorId → List ℕ
actor_word Timer = codes "t"
actor_word (Hart h) = codes "h" ++ decimal h
actor_word (Device d) = codes "d" ++ decimal d

abbrev pub HasActorForm : ActorId → Type 0
HasActorForm Timer = Unit {0}
HasActorForm (Hart h) = h ≤ 255
HasActorForm (Device d) = d ≤ 255
