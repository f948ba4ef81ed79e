-- Where a reply leads a walk: it goes on, or it comes to something.
use Rattle.std.proofs.Common.{◌≡◌, ℕ, zero, suc, ◌+◌, ◌-◌, ◌*◌, ◌%◌, ◌^◌, ◌==◌, ◌&&◌, ◌<◌, ◌≤◌, nat_le, nat_lt, refl, ap, subst, Bool, true, false, if◌then◌else◌, List, [], ◌∷◌, ◌++◌, length, length-append, arith, Option, Some, None, IfSome, ◌⊎◌, inl, inr}
use Rattle.std.specs.List.{All}
use Rattle.std.proofs.lemmas.Bool.{and_parts, ltb-true}
use Rattle.vm_types.specs.declared.op.Op.TheVariants.{Read}
use Rattle.vm_types.specs.declared.reply.Reply.{Reply}
use Rattle.vm_types.specs.Fits.{fits}
use Rattle.device_trace.specs.Doing.{Doing, Gives, asked, led}
use Rattle.le_fields.specs.Fields.{IsByte, field_at}
use Rattle.vq_split.specs.declared.descriptor.Descriptor.{Descriptor}
use Rattle.vq_split.specs.declared.queue.Queue.{Queue}
use Rattle.vq_split.specs.declared.queue.Part.{Part}
use Rattle.vq_split.specs.declared.queue.Table.{Table}
use Rattle.vq_split.specs.declared.queue.Why.{Why}
use Rattle.vq_split.specs.declared.walk.Stage.{Stage}
use Rattle.vq_split.specs.declared.walk.Stage.TheVariants.{AvailEvent, Entry, EntryRest, Index, IndexAgain, Link, Ring}
use Rattle.vq_split.specs.declared.walk.Walk.{Walk}
use Rattle.vq_split.specs.declared.walk.Walk.TheVariants.{Broken, Chain, Empty, More}
use Rattle.vq_split.specs.Chain.{described_by, descriptor_flaw, descriptor_of, descriptors, entries, entry_begun, entry_flaw, entry_linked, entry_place}
use Rattle.vq_split.specs.Chain.{event_written, front_length, has_next, headed_by, index_again, index_in, index_seen, indexed_by, is_indirect, is_writable}
use Rattle.vq_split.specs.Chain.{most_parts, read_bytes, table_of, unless_flawed, with_part}
use Rattle.vq_split.specs.Inside.{AreInside}
use Rattle.vq_split.specs.Kept.{IsWalking, is_stage, is_walking}
use Rattle.vq_split.specs.Walking.{IsEntry, IsSound, IsStage, Walking, left_at, look_left, op_at, walk_left, walk_wants}
use Rattle.vq_split.proofs.Inside.{entry_fine, entry_named, entry_next, more_inside, plain_fine}
use Rattle.vq_split.proofs.Kept.{test_of_walking}
use Rattle.vq_split.proofs.Steps.{asked_entries, entry_led, bytes_fit, told_entry, told_link, told_rest}
use Rattle.queue_device.specs.Sizes.{IsHead, IsNarrowStage, IsSmallReply}
use Rattle.queue_device.proofs.Pieces.{read_small}

-- what a walk comes to in a guest of so many pages: a chain has at most 256 parts, which lie inside RAM, and the number of its
-- first descriptor has its width
abbrev pub IsCome : Bool → ℕ → Walk → Type 0
IsCome sized pages (Chain head parts) = AreInside pages parts × (length parts ≤ 256) × (sized ≡ true → IsHead head)
IsCome sized pages came = Unit {0}

-- a walk of the same chain of the queue, past the look, of which this is left
pub record WalksOn (sized : Bool) (q : Queue) (next : ℕ) (t : Doing Walk) : Type 0 where
  pub walk : Walking
  pub is : IsWalking walk
  pub narrow : sized ≡ true → IsNarrowStage walk.stage
  pub queue : walk.queue ≡ q
  pub number : walk.next ≡ next
  pub past : look_left walk.stage walk.queue walk.next ≡ None
  pub left : walk_left walk ≡ t

-- or this is what it has come to
pub record HasCome (sized : Bool) (pages : ℕ) (t : Doing Walk) : Type 0 where
  pub came : Walk
  pub is : IsCome sized pages came
  pub left : t ≡ Gives came

abbrev pub WalkGoes : Bool → Queue → ℕ → Doing Walk → Type 0
WalkGoes sized q next t = WalksOn sized q next t ⊎ HasCome sized q.pages t

-- a walk of the same chain that looks so still
pub record LooksOn (sized : Bool) (q : Queue) (next : ℕ) (t : Doing ℕ) : Type 0 where
  pub walk : Walking
  pub is : IsWalking walk
  pub narrow : sized ≡ true → IsNarrowStage walk.stage
  pub queue : walk.queue ≡ q
  pub number : walk.next ≡ next
  pub looks : look_left walk.stage walk.queue walk.next ≡ Some t

-- or an index that counts came
pub record HasShown (t : Doing ℕ) : Type 0 where
  pub index : ℕ
  pub left : t ≡ Gives index

abbrev pub LookGoes : Bool → Queue → ℕ → Doing ℕ → Type 0
LookGoes sized q next t = LooksOn sized q next t ⊎ HasShown t

module _ (sized : Bool) (q : Queue) (next : ℕ) where
  comes : (came : Walk) → IsCome sized q.pages came → WalkGoes sized q next (Gives came)
  comes came is = inr (record { came = came; is = is; left = refl })

  walks : (s : Stage) (parts : List Part) (t : Doing Walk) → look_left s q next ≡ None → IsSound q → IsStage s q parts
      → (sized ≡ true → IsNarrowStage s) → AreInside q.pages parts → left_at s q next parts ≡ t → WalkGoes sized q next t
  walks s parts t past sound staged narrow inside same =
      inl (record {
        walk = record { queue = q; next = next; stage = s; parts = parts };
        is = record { sound = sound; stage = staged; inside = inside };
        narrow = narrow;
        queue = refl;
        number = refl;
        past = past;
        left = same;
      })

  goes_if : (test : Bool) (x y : Doing Walk) → (test ≡ true → WalkGoes sized q next x) → (test ≡ false → WalkGoes sized q next y)
      → WalkGoes sized q next (if test then x else y)
  goes_if true x y on off = on refl
  goes_if false x y on off = off refl

  goes_unless : (flaw : Option Why) (t : Doing Walk) → (flaw ≡ None → WalkGoes sized q next t)
      → WalkGoes sized q next (unless_flawed flaw t)
  goes_unless (Some why) t fine = comes (Broken why) tt
  goes_unless None t fine = fine refl

  headed : (head : ℕ) → IsSound q → WalkGoes sized q next (headed_by q head)
  headed head sound =
      goes_if (nat_le q.size head) _ _ (λ past. comes _ tt)
      (λ below.
      let size : q.size - 0 ≡ q.size = omega arith in
      let there : head < q.size = grind (arith, below) in
      let most = sound.most in
      walks (Link head head) [] _ refl sound (there, sound.some) (λ is. omega (arith, there, most)) tt
      (ap (λ n. descriptors q head n head []) size))

  pub indexed : (index : ℕ) → IsSound q → WalkGoes sized q next (indexed_by q next index)
  indexed index sound =
      goes_if (index == next) _ _ (λ none. comes Empty tt)
      (λ some. goes_if (nat_lt q.size ((index + 2 ^ 16 - next) % 2 ^ 16)) _ _ (λ ahead. comes _ tt)
      (λ near. walks Ring [] _ refl sound refl (λ is. tt) tt refl))

  abbrev New : Descriptor → Part
  New d = record { at = d.at; len = d.len; writable = is_writable d }

  described : (head : ℕ) (parts : List Part) (d : Descriptor) → IsSound q → (sized ≡ true → IsHead head) → length parts < q.size
      → AreInside q.pages parts → WalkGoes sized q next (described_by q head (q.size - length parts - 1) parts d)
  described head parts d sound narrow few inside =
      let longer = length-append parts (New d ∷ []) in
      let most = sound.most in
      goes_unless (descriptor_flaw q parts d) _ (λ none.
      goes_if (is_indirect d) _ _
      (λ names.
      let room : length parts < most_parts = omega (arith, few, most) in
      walks (Entry head (table_of d) 0) parts _ refl sound (entry_named q parts d none names room) narrow inside refl)
      (λ plain.
      let is = plain_fine q parts d none plain in
      let all = more_inside q.pages parts (New d) inside is.1.some is.1.inside in
      goes_if (has_next d) _ _
      (λ more.
      let fits = is.1.room more in
      let count : q.size - length (with_part parts d) ≡ q.size - length parts - 1 = omega (arith, longer) in
      let room : length (with_part parts d) < q.size = omega (arith, longer, fits) in
      walks (Link head d.next) (with_part parts d) _ refl sound (is.0 more, room) narrow all
      (ap (λ n. descriptors q head n d.next (with_part parts d)) count))
      (λ last. comes _ (all, omega (arith, longer, few, most), narrow))))

  -- an entry of a table
  entered : (head : ℕ) (table : Table) (at : ℕ) (parts : List Part) (d : Descriptor) → IsSound q → (sized ≡ true → IsHead head)
      → IsEntry q table at parts → AreInside q.pages parts
      → WalkGoes sized q next (entry_linked q head table parts d (entries q head table (most_parts - length parts - 1)))
  entered head table at parts d sound narrow is inside =
      let longer = length-append parts (New d ∷ []) in
      let few = is.few in
      goes_unless (entry_flaw q table parts d) _ (λ none.
      let fine = entry_fine q table parts d none in
      let all = more_inside q.pages parts (New d) inside fine.1.some fine.1.inside in
      goes_if (has_next d) _ _
      (λ more.
      let count : most_parts - length (with_part parts d) ≡ most_parts - length parts - 1 = omega (arith, longer) in
      walks (Entry head table d.next) (with_part parts d) _ refl sound (entry_next q table at parts d (New d) none more is) narrow all
      (ap (λ n. entries q head table n d.next (with_part parts d)) count))
      (λ last. comes _ (all, omega (arith, longer, few), narrow)))

  -- its front, or all of it
  begun : (head : ℕ) (table : Table) (at : ℕ) (parts : List Part) (front : List ℕ) → IsSound q → (sized ≡ true → IsHead head)
      → IsEntry q table at parts → AreInside q.pages parts → length front ≡ front_length (entry_place table at)
      → (sized ≡ true → All IsByte front)
      → WalkGoes sized q next (entry_begun (entry_place table at) front (λ d.
      entry_linked q head table parts d (entries q head table (most_parts - length parts - 1))))
  begun head table at parts front sound narrow is inside long bytes =
      goes_if (nat_lt (front_length (entry_place table at)) 16) _ _
      (λ cut. walks (EntryRest head table at front) parts _ refl sound (is, ltb-true _ _ cut, long) (λ yes. (narrow yes, bytes yes)) inside
      refl)
      (λ whole. entered head table at parts (descriptor_of front) sound narrow is inside)

  goes_at : (s : Stage) (parts : List Part) (reply : Reply) → look_left s q next ≡ None → IsSound q → IsStage s q parts
      → (sized ≡ true → IsNarrowStage s) → AreInside q.pages parts → fits (op_at s q next) reply ≡ true → (sized ≡ true → IsSmallReply reply)
      → WalkGoes sized q next (led (left_at s q next parts) reply)
  goes_at Index parts reply past sound is narrow inside fit small = absurd (cc)
  goes_at AvailEvent parts reply past sound is narrow inside fit small = absurd (cc)
  goes_at IndexAgain parts reply past sound is narrow inside fit small = absurd (cc)
  goes_at Ring parts reply past sound is narrow inside fit small = headed (field_at (read_bytes 2 reply) 0 2) sound
  goes_at (Link head at) parts reply past sound is narrow inside fit small =
      let w : Walking = record { queue = q; next = next; stage = Link head at; parts = parts } in
      let d = descriptor_of (read_bytes 16 reply) in
      subst (WalkGoes sized q next)
      (told_link w head at reply More (described_by q head (q.size - length parts - 1) parts d) refl is refl)
      (described head parts d sound narrow is.1 inside)
  goes_at (Entry head table at) parts reply past sound is narrow inside fit small =
      let w : Walking = record { queue = q; next = next; stage = Entry head table at; parts = parts } in
      let place = entry_place table at in
      let front = read_bytes (front_length place) reply in
      subst (WalkGoes sized q next)
      (told_entry w head table at reply More (entry_begun place front (entry_led w head table)) refl is refl)
      (begun head table at parts front sound narrow is inside (bytes_fit place (front_length place) reply fit)
      (λ yes. read_small (front_length place) reply (small yes)))
  goes_at (EntryRest head table at front) parts reply past sound is narrow inside fit small =
      let w : Walking = record { queue = q; next = next; stage = EntryRest head table at front; parts = parts } in
      let d = descriptor_of (front ++ read_bytes (16 - length front) reply) in
      subst (WalkGoes sized q next)
      (told_rest w head table at front reply More (entry_led w head table d) refl is.2 refl)
      (entered head table at parts d sound (λ yes. (narrow yes).0) is.0 inside)

pub walk_goes : (sized : Bool) (w : Walking) (reply : Reply) → look_left w.stage w.queue w.next ≡ None → IsWalking w
    → (sized ≡ true → IsNarrowStage w.stage) → fits (walk_wants w) reply ≡ true → (sized ≡ true → IsSmallReply reply)
    → WalkGoes sized w.queue w.next (led (walk_left w) reply)
walk_goes sized w reply past is narrow fit small =
    goes_at sized w.queue w.next w.stage w.parts reply past is.sound is.stage narrow is.inside fit small

-- ---- the look at the ring

module _ (sized : Bool) (q : Queue) (next : ℕ) (sound : IsSound q) where
  looks : (s : Stage) (t : Doing ℕ) → IsStage s q [] → (sized ≡ true → IsNarrowStage s) → look_left s q next ≡ Some t
      → LookGoes sized q next t
  looks s t staged narrow is =
      inl (record {
        walk = record { queue = q; next = next; stage = s; parts = [] };
        is = record { sound = sound; stage = staged; inside = tt };
        narrow = narrow;
        queue = refl;
        number = refl;
        looks = is;
      })

  seen_by : (test : Bool) (index : ℕ) → ((index == next) && q.accepted.event_index) ≡ test
      → LookGoes sized q next (if test then event_written q next else Gives index)
  seen_by true index is =
      looks AvailEvent (event_written q next) (refl, (and_parts (index == next) q.accepted.event_index is).1) (λ yes. tt) refl
  seen_by false index is = inr (record { index = index; left = refl })

  -- an index came to the first one
  pub seen_goes : (index : ℕ) → LookGoes sized q next (index_seen q next index)
  seen_goes index = seen_by ((index == next) && q.accepted.event_index) index refl

  look_at : (s : Stage) (parts : List Part) (reply : Reply) → IsStage s q parts
      → IfSome (look_left s q next) (λ t. LookGoes sized q next (led t reply))
  look_at Index parts reply is = seen_goes (index_in reply)
  look_at AvailEvent parts reply is = looks IndexAgain (index_again q) (refl, is.1) (λ yes. tt) refl
  look_at IndexAgain parts reply is = inr (record { index = index_in reply; left = refl })
  look_at Ring parts reply is = tt
  look_at (Link head at) parts reply is = tt
  look_at (Entry head table at) parts reply is = tt
  look_at (EntryRest head table at front) parts reply is = tt

pub look_goes : (sized : Bool) (w : Walking) (t : Doing ℕ) (reply : Reply) → look_left w.stage w.queue w.next ≡ Some t → IsWalking w
    → LookGoes sized w.queue w.next (led t reply)
look_goes sized w t reply looks is =
    subst (λ (o : Option (Doing ℕ)). IfSome o (λ u. LookGoes sized w.queue w.next (led u reply))) looks
    (look_at sized w.queue w.next is.sound w.stage w.parts reply is.stage)

link_asks : (q : Queue) (head most at : ℕ) (parts : List Part) → 0 < most
    → asked (descriptors q head most at parts) ≡ Some (Read (q.descriptors + 16 * at) 16)
link_asks q head zero at parts some = absurd (omega (arith, some))
link_asks q head (suc most) at parts some = refl

asks_at : (s : Stage) (q : Queue) (next : ℕ) (parts : List Part) → is_stage s q parts ≡ true
    → asked (left_at s q next parts) ≡ Some (op_at s q next)
asks_at Index q next parts is = refl
asks_at AvailEvent q next parts is = refl
asks_at IndexAgain q next parts is = refl
asks_at Ring q next parts is = refl
asks_at (Link head at) q next parts is =
    let h = and_parts (nat_lt at q.size) (nat_lt (length parts) q.size) is in
    let room : length parts < q.size = grind (arith, h.1) in
    link_asks q head (q.size - length parts) at parts (omega (arith, room))
asks_at (Entry head table at) q next parts is =
    let room : length parts < most_parts = ltb-true _ _ (and_parts _ (nat_lt (length parts) most_parts) is).1 in
    asked_entries q head table (most_parts - length parts) at parts (omega (arith, room))
asks_at (EntryRest head table at front) q next parts is = refl

-- a walk has something left to want, by its test alone
pub test_asks : (w : Walking) → is_walking w ≡ true → asked (walk_left w) ≡ Some (walk_wants w)
test_asks w is = asks_at w.stage w.queue w.next w.parts (and_parts _ _ (and_parts _ _ is).0).1

pub walk_asks : (w : Walking) → IsWalking w → asked (walk_left w) ≡ Some (walk_wants w)
walk_asks w is = test_asks w (test_of_walking w is)
