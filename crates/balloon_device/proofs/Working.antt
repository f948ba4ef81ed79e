-- What is left of a chain, step by step.
use Rattle.std.proofs.Common.{◌≡◌, ℕ, zero, suc, ◌+◌, ◌-◌, ◌*◌, ◌/◌, ◌==◌, ◌<◌, ◌≤◌, refl, sym, ap, ◌∙◌, true, false, Some, List, [], ◌++◌, length, drop, replicate, arith, length-drop}
use Rattle.vm_types.specs.declared.op.Op.TheVariants.{Read, Write}
use Rattle.vm_types.specs.declared.reply.Reply.{Reply}
use Rattle.device_trace.specs.Doing.{Doing, Gives, Wants, and_then, asked, led}
use Rattle.guest_memory.specs.Ram.{page_size}
use Rattle.le_fields.specs.Fields.{field_at}
use Rattle.vq_split.specs.declared.queue.Part.{Part}
use Rattle.vq_split.specs.Chain.{is_inside, read_bytes}
use Rattle.dev_core.specs.declared.collect.Collect.{Collect}
use Rattle.dev_core.specs.Pieces.{past, place, room}
use Rattle.dev_core.proofs.Fuel.{none_of}
use Rattle.queue_device.specs.Acting.{performing}
use Rattle.queue_device.specs.Left.{begin_of}
use Rattle.balloon_device.specs.declared.statistics.Statistics.{Statistics}
use Rattle.balloon_device.specs.Balloon.{Balloon, pages_done, tags_done}
use Rattle.balloon_device.specs.Pages.{all_zeroed, inflated, numbers_zeroed, page_zeroed, zeros}
use Rattle.balloon_device.specs.Pieces.{read_all}
use Rattle.balloon_device.specs.Statistics.{Telling, all_told, no_statistics, told}
use Rattle.balloon_device.specs.Work.{first_of, list_left, tags_left, zeros_left}
use Rattle.balloon_device.proofs.Pieces.{read_done, read_more}

assoc : {A B C : Type 0} (t : Doing A) (f : A → Doing B) (g : B → Doing C)
    → and_then (and_then t f) g ≡ and_then t (λ a. and_then (f a) g)
assoc (Gives a) f g = refl
assoc (Wants op on) f g = λ i. Wants op (λ reply. assoc (on reply) f g i)

abbrev pub listing : ℕ → List ℕ → List ℕ → Doing (List ℕ)
listing pages begun piece = all_zeroed pages (begun ++ piece)

abbrev pub telling : Telling → List ℕ → Doing Telling
telling t piece = Gives (all_told (t.begun ++ piece) t.so_far)

abbrev pub collected : List Part → List ℕ → Collect
collected from held = record { from = from; held = held }

-- ---- a list of pages

none_whole : (n : ℕ) → n < 4 → n / 4 ≡ 0
none_whole n few = omega (arith, few)

pub list_read : (pages : ℕ) (from : List Part) (held : List ℕ) → length held < 4
    → list_left pages (collected from held) ≡ read_all (listing pages) held from
list_read pages from held few = rw (none_whole (length held) few) refl

pub list_done : (pages : ℕ) (from : List Part) (held : List ℕ) → length held < 4 → room from ≡ 0
    → list_left pages (collected from held) ≡ Gives held
list_done pages from held few none = list_read pages from held few ∙ read_done (listing pages) held from none

list_more : (pages : ℕ) (from : List Part) (held : List ℕ) → length held < 4 → 0 < room from
    → list_left pages (collected from held)
    ≡ Wants (Read (place from) (room from)) (λ reply.
    list_left pages (collected (past (room from) from) (held ++ read_bytes (room from) reply)))
list_more pages from held few some = list_read pages from held few ∙ read_more (listing pages) held from some

pub list_asked : (pages : ℕ) (from : List Part) (held : List ℕ) → length held < 4 → 0 < room from
    → asked (list_left pages (collected from held)) ≡ Some (Read (place from) (room from))
list_asked pages from held few some = ap asked (list_more pages from held few some)

pub list_led : (pages : ℕ) (from : List Part) (held : List ℕ) (reply : Reply) → length held < 4 → 0 < room from
    → led (list_left pages (collected from held)) reply
    ≡ list_left pages (collected (past (room from) from) (held ++ read_bytes (room from) reply))
list_led pages from held reply few some =
    ap (λ (t : Doing (List ℕ)). led t reply) (list_more pages from held few some)

-- the first number that is held
suc_whole : (n : ℕ) → 4 ≤ n → n / 4 ≡ suc ((n - 4) / 4)
suc_whole n some = omega (arith, some)

number_first : (pages : ℕ) (from : List Part) (held : List ℕ) → 4 ≤ length held
    → list_left pages (collected from held)
    ≡ and_then (page_zeroed pages (field_at held 0 4)) (λ done. list_left pages (collected from (drop 4 held)))
number_first pages from held some =
    let shorter : length (drop 4 held) ≡ length held - 4 = length-drop 4 held in
    ap (λ (n : ℕ). and_then (numbers_zeroed pages n held) (λ begun. read_all (listing pages) begun from)) (suc_whole (length held) some)
    ∙ assoc (page_zeroed pages (field_at held 0 4)) (λ done. numbers_zeroed pages ((length held - 4) / 4) (drop 4 held))
    (λ begun. read_all (listing pages) begun from)
    ∙ ap (λ (n : ℕ). and_then (page_zeroed pages (field_at held 0 4)) (λ done.
    and_then (numbers_zeroed pages (n / 4) (drop 4 held)) (λ begun. read_all (listing pages) begun from))) (sym shorter)

-- is RAM's or not
pub number_inside : (pages : ℕ) (from : List Part) (held : List ℕ) → 4 ≤ length held
    → is_inside pages (page_size * field_at held 0 4) page_size ≡ true
    → list_left pages (collected from held) ≡ zeros_left pages (collected from (drop 4 held)) 64 (page_size * field_at held 0 4)
number_inside pages from held some inside = number_first pages from held some ∙ rw inside refl

pub number_outside : (pages : ℕ) (from : List Part) (held : List ℕ) → 4 ≤ length held
    → is_inside pages (page_size * field_at held 0 4) page_size ≡ false
    → list_left pages (collected from held) ≡ list_left pages (collected from (drop 4 held))
number_outside pages from held some outside = number_first pages from held some ∙ rw outside refl

-- the same with the values as the program has them
pub next_inside : (pages at : ℕ) (from : List Part) (held rest : List ℕ) → 4 ≤ length held → rest ≡ drop 4 held
    → at ≡ page_size * field_at held 0 4 → is_inside pages at page_size ≡ true
    → list_left pages (collected from held) ≡ zeros_left pages (collected from rest) 64 at
next_inside pages at from held rest some behind is inside =
    number_inside pages from held some (ap (λ (n : ℕ). is_inside pages n page_size) (sym is) ∙ inside)
    ∙ (λ i. zeros_left pages (collected from (sym behind i)) 64 (sym is i))

pub next_outside : (pages at : ℕ) (from : List Part) (held rest : List ℕ) → 4 ≤ length held → rest ≡ drop 4 held
    → at ≡ page_size * field_at held 0 4 → is_inside pages at page_size ≡ false
    → list_left pages (collected from rest) ≡ list_left pages (collected from held)
next_outside pages at from held rest some behind is outside =
    ap (λ (l : List ℕ). list_left pages (collected from l)) behind
    ∙ sym (number_outside pages from held some (ap (λ (n : ℕ). is_inside pages n page_size) (sym is) ∙ outside))

-- ---- the writes of a page

one_less : (k : ℕ) → suc k - 1 ≡ k
one_less k = omega arith

zeros_more : (count at : ℕ) → 0 < count → zeros count at ≡ Wants (Write at (replicate 64 0)) (λ reply. zeros (count - 1) (at + 64))
zeros_more zero at some = absurd (omega (arith, some))
zeros_more (suc k) at some = λ i. Wants (Write at (replicate 64 0)) (λ reply. zeros (sym (one_less k) i) (at + 64))

pub zeros_asked : (pages : ℕ) (list : Collect) (count at : ℕ) → 0 < count
    → asked (zeros_left pages list count at) ≡ Some (Write at (replicate 64 0))
zeros_asked pages list count at some =
    ap (λ (t : Doing (Unit {0})). asked (and_then t (λ done. list_left pages list))) (zeros_more count at some)

pub zeros_led : (pages : ℕ) (list : Collect) (count at : ℕ) (reply : Reply) → 0 < count
    → led (zeros_left pages list count at) reply ≡ zeros_left pages list (count - 1) (at + 64)
zeros_led pages list count at reply some =
    ap (λ (t : Doing (Unit {0})). led (and_then t (λ done. list_left pages list)) reply) (zeros_more count at some)

-- ---- statistics

-- where these are all entries of what is held, it is told no more
pub tags_same : (from : List Part) (held begun : List ℕ) (s so_far : Statistics)
    → record { begun = begun; so_far = so_far } ≡ all_told held s → all_told begun so_far ≡ record { begun = begun; so_far = so_far }
    → tags_left (collected from held) s ≡ tags_left (collected from begun) so_far
tags_same from held begun s so_far is still =
    ap (λ (t : Telling). and_then (read_all telling t from) (λ t. Gives t.so_far)) (sym is ∙ sym still)

pub tags_read : (from : List Part) (held : List ℕ) (s : Statistics) → all_told held s ≡ record { begun = held; so_far = s }
    → tags_left (collected from held) s ≡ and_then (read_all telling (record { begun = held; so_far = s }) from) (λ t. Gives t.so_far)
tags_read from held s still = ap (λ (t : Telling). and_then (read_all telling t from) (λ t. Gives t.so_far)) still

pub tags_end : (from : List Part) (held : List ℕ) (s : Statistics) → all_told held s ≡ record { begun = held; so_far = s }
    → room from ≡ 0 → tags_left (collected from held) s ≡ Gives s
tags_end from held s still none =
    tags_read from held s still
    ∙ ap (λ (t : Doing Telling). and_then t (λ t. Gives t.so_far)) (read_done telling (record { begun = held; so_far = s }) from none)

tags_more : (from : List Part) (held : List ℕ) (s : Statistics) → all_told held s ≡ record { begun = held; so_far = s }
    → 0 < room from
    → tags_left (collected from held) s ≡ Wants (Read (place from) (room from)) (λ reply.
    tags_left (collected (past (room from) from) (held ++ read_bytes (room from) reply)) s)
tags_more from held s still some =
    tags_read from held s still
    ∙ ap (λ (t : Doing Telling). and_then t (λ t. Gives t.so_far)) (read_more telling (record { begun = held; so_far = s }) from some)

pub tags_asked : (from : List Part) (held : List ℕ) (s : Statistics) → all_told held s ≡ record { begun = held; so_far = s }
    → 0 < room from → asked (tags_left (collected from held) s) ≡ Some (Read (place from) (room from))
tags_asked from held s still some = ap asked (tags_more from held s still some)

pub tags_led : (from : List Part) (held : List ℕ) (s : Statistics) (reply : Reply)
    → all_told held s ≡ record { begun = held; so_far = s } → 0 < room from
    → led (tags_left (collected from held) s) reply
    ≡ tags_left (collected (past (room from) from) (held ++ read_bytes (room from) reply)) s
tags_led from held s reply still some = ap (λ (t : Doing Statistics). led t reply) (tags_more from held s still some)

-- ---- a reply leads on, with the values as the program has them

pub list_goes : (pages : ℕ) (from left : List Part) (held now : List ℕ) (reply : Reply) (e : Balloon)
    → (length held < 4) × (0 < room from) → left ≡ past (room from) from → now ≡ held ++ read_bytes (room from) reply
    → performing (led (list_left pages (collected from held)) reply) e pages_done
    ≡ performing (list_left pages (collected left now)) e pages_done
list_goes pages from left held now reply e is past_is now_is =
    ap (λ (t : Doing (List ℕ)). performing t e pages_done)
    (list_led pages from held reply is.0 is.1 ∙ (λ i. list_left pages (collected (sym past_is i) (sym now_is i))))

pub zeros_go : (pages : ℕ) (list : Collect) (left at : ℕ) (reply : Reply) (e : Balloon) → 0 < left
    → performing (led (zeros_left pages list left at) reply) e pages_done
    ≡ performing (zeros_left pages list (left - 1) (at + 64)) e pages_done
zeros_go pages list left at reply e some =
    ap (λ (t : Doing (List ℕ)). performing t e pages_done) (zeros_led pages list left at reply some)

pub tags_go : (from left : List Part) (held now : List ℕ) (s : Statistics) (reply : Reply) (e : Balloon)
    → all_told held s ≡ record { begun = held; so_far = s } → 0 < room from → left ≡ past (room from) from
    → now ≡ held ++ read_bytes (room from) reply
    → performing (led (tags_left (collected from held) s) reply) e tags_done ≡ performing (tags_left (collected left now) s) e tags_done
tags_go from left held now s reply e still some past_is now_is =
    ap (λ (t : Doing Statistics). performing t e tags_done)
    (tags_led from held s reply still some ∙ (λ i. tags_left (collected (sym past_is i) (sym now_is i)) s))

-- ---- how a chain begins

pub inflated_begins : (pages : ℕ) (parts : List Part) (e : Balloon)
    → first_of parts ≡ begin_of (performing (inflated pages parts) e pages_done)
inflated_begins pages parts e = by (room parts) refl
  where
    by : (n : ℕ) → room parts ≡ n → first_of parts ≡ begin_of (performing (inflated pages parts) e pages_done)
    by zero is = rw (read_done (listing pages) [] parts is, is) refl
    by (suc n) is =
        let some : 0 < room parts = omega (arith, is) in
        let more : (room parts == 0) ≡ false = none_of (room parts) some in
        rw (read_more (listing pages) [] parts some, more) refl

pub told_begins : (parts : List Part) (e : Balloon) → first_of parts ≡ begin_of (performing (told parts) e tags_done)
told_begins parts e = by (room parts) refl
  where
    none : Telling
    none = record { begun = []; so_far = no_statistics }

    by : (n : ℕ) → room parts ≡ n → first_of parts ≡ begin_of (performing (told parts) e tags_done)
    by zero is = rw (read_done telling none parts is, is) refl
    by (suc n) is =
        let some : 0 < room parts = omega (arith, is) in
        let more : (room parts == 0) ≡ false = none_of (room parts) some in
        rw (read_more telling none parts some, more) refl
