-- The script of a number: two harts that add to pages, a full snapshot, and rounds of steps, each with a diff behind it.
use Rattle.std.specs.Prelude.{ℕ, ◌+◌, ◌*◌, ◌/◌, ◌%◌, ◌^◌, zero, suc, List, [], ◌∷◌, ◌++◌, flat_map, codes}
use Rattle.std.specs.Fmt.{decimal}
use Rattle.vm_types.specs.declared.ids.ActorId.TheVariants.{Hart}
use Rattle.script_text.specs.declared.item.Item.{Item}
use Rattle.script_text.specs.declared.item.Item.TheVariants as item
use Rattle.script_text.specs.Written.{line_of}

-- what is drawn: one turn of a linear congruential generator, and the number behind so many of them
abbrev pub turn : ℕ → ℕ
turn x = (6364136223846793005 * x + 1442695040888963407) % 2 ^ 64

abbrev pub turned : ℕ → ℕ → ℕ
turned number zero = number
turned number (suc turns) = turn (turned number turns)

-- the steps that its bits from the 33rd on give: 64 to 4,159
abbrev pub steps_by : ℕ → ℕ
steps_by x = 64 + (x / 2 ^ 33) % 4096

-- how many rounds there are: 1 to 64
abbrev pub rounds_of : ℕ → ℕ
rounds_of number = 1 + number % 64

-- The guest's code. The first hart starts the second behind its call. Then both count in t2, and add each count to a word: to that at
-- 0x80210018, or on one of the 127 pages behind its own, as the count modulo 128 says.
abbrev pub image : List ℕ
image =
    183 ∷ 88 ∷ 72 ∷ 0  -- lui a7, 0x485
    ∷ 147 ∷ 136 ∷ 216 ∷ 52  -- addi a7, a7, 0x34d
    ∷ 19 ∷ 5 ∷ 16 ∷ 0  -- li a0, 1
    ∷ 151 ∷ 5 ∷ 0 ∷ 0  -- auipc a1, 0
    ∷ 147 ∷ 133 ∷ 197 ∷ 0  -- addi a1, a1, 12
    ∷ 115 ∷ 0 ∷ 0 ∷ 0  -- ecall
    ∷ 151 ∷ 2 ∷ 1 ∷ 0  -- auipc t0, 0x10
    ∷ 147 ∷ 131 ∷ 19 ∷ 0  -- addi t2, t2, 1
    ∷ 19 ∷ 254 ∷ 243 ∷ 7  -- andi t3, t2, 127
    ∷ 19 ∷ 30 ∷ 206 ∷ 0  -- slli t3, t3, 12
    ∷ 51 ∷ 14 ∷ 94 ∷ 0  -- add t3, t3, t0
    ∷ 47 ∷ 48 ∷ 126 ∷ 0  -- amoadd.d zero, t2, (t3)
    ∷ 111 ∷ 240 ∷ 223 ∷ 254 ∷ []  -- j -20

abbrev pub put : List ℕ → List ℕ → Item
put path body = item.Api (codes "PUT") path body

abbrev pub set_state : List ℕ → Item
set_state state = item.Api (codes "PATCH") (codes "/vm") (codes "{\"state\":\"" ++ state ++ codes "\"}")

abbrev pub pause : Item
pause = set_state (codes "Paused")

abbrev pub resume : Item
resume = set_state (codes "Resumed")

abbrev pub boot : Item
boot = put (codes "/boot-source") (codes "{\"kernel_image_path\":\"k\"}")

abbrev pub configure : Item
configure = put (codes "/machine-config") (codes "{\"vcpu_count\":2,\"mem_size_mib\":4,\"track_dirty_pages\":true}")

abbrev pub start : Item
start = put (codes "/actions") (codes "{\"action_type\":\"InstanceStart\"}")

abbrev pub create_full : Item
create_full = put (codes "/snapshot/create") (codes "{\"snapshot_path\":\"s0\",\"mem_file_path\":\"m0\"}")

-- the lineage, a machine with two harts that has started, and its full snapshot
abbrev pub opening : ℕ → List Item
opening number =
    item.Lineage number ∷ item.File (codes "k") image ∷ boot ∷ configure ∷ start ∷ item.Step (Hart 0) 7 ∷ pause ∷ create_full
    ∷ resume ∷ []

-- a diff since the snapshot before
abbrev pub create_diff : ℕ → Item
create_diff i =
    put (codes "/snapshot/create")
    (codes "{\"snapshot_type\":\"Diff\",\"snapshot_path\":\"s" ++ decimal i ++ codes "\",\"mem_file_path\":\"d" ++ decimal i
    ++ codes "\"}")

-- the round behind so many others: steps of each hart as the next two turns give them, and a diff
abbrev pub round : ℕ → ℕ → List Item
round number before =
    item.Step (Hart 0) (steps_by (turned number (2 * before + 1)))
    ∷ item.Step (Hart 1) (steps_by (turned number (2 * before + 2)))
    ∷ pause
    ∷ create_diff (before + 1)
    ∷ resume
    ∷ []

-- the first so many
abbrev pub rounds : ℕ → ℕ → List Item
rounds number zero = []
rounds number (suc before) = rounds number before ++ round number before

abbrev pub load_items : ℕ → List Item
load_items number = opening number ++ rounds number (rounds_of number)

-- the lines of items, each with its LF
abbrev pub text_of : List Item → List ℕ
text_of items = flat_map (λ it. line_of it ++ 10 ∷ []) items

abbrev pub load_script : ℕ → List ℕ
load_script number = text_of (load_items number)
