-- What a balloon owes of what is kept of it.
use Rattle.std.proofs.Common.{◌≡◌, ℕ, zero, suc, ◌+◌, ◌-◌, ◌*◌, ◌/◌, ◌%◌, ◌^◌, ◌<◌, ◌≤◌, ◌==◌, nat_le, nat_lt, refl, sym, ap, ◌∙◌, subst, inl, inr, Bool, true, false, if◌then◌else◌, Option, Some, None, List, [], ◌++◌, length, drop, arith, length-append, length-drop}
use Rattle.std.specs.List.{All}
use Rattle.std.proofs.lemmas.Bool.{ltb-false, ltb-true}
use Rattle.std.proofs.lemmas.List.Elements.{All-append, All-drop, All-nil}
use Rattle.vm_types.specs.declared.op.Op.TheVariants.{Read}
use Rattle.vm_types.specs.declared.reply.Reply.{Reply}
use Rattle.vm_types.specs.Fits.{Fits}
use Rattle.device_trace.specs.Doing.{Doing, led}
use Rattle.device_trace.specs.Keeps.{Keeps}
use Rattle.device_trace.specs.Traces.{setting}
use Rattle.device_trace.proofs.Keeping.{keeps_then}
use Rattle.guest_memory.specs.Ram.{page_size}
use Rattle.le_fields.specs.Fields.{IsByte, field_at}
use Rattle.vq_split.specs.declared.queue.Part.{Part}
use Rattle.vq_split.specs.Chain.{is_inside, read_bytes}
use Rattle.vq_split.specs.Inside.{AreInside}
use Rattle.vq_split.proofs.Inside.{of_ram}
use Rattle.dev_core.specs.declared.collect.Collect.{Collect}
use Rattle.dev_core.specs.Inside.{Any}
use Rattle.dev_core.specs.Pieces.{past, place, readable, room, total}
use Rattle.dev_core.proofs.Bytes as bytes
use Rattle.vq_split.proofs.Steps.{bytes_fit}
use Rattle.dev_core.proofs.Inside.{filter_inside, past_inside}
use Rattle.queue_device.specs.declared.lanes.Which.{Which}
use Rattle.queue_device.specs.declared.lanes.Which.TheVariants.{First, Second, Third}
use Rattle.queue_device.specs.declared.phase.Work.{Work}
use Rattle.queue_device.specs.declared.phase.Work.TheVariants as work
use Rattle.queue_device.specs.Acting.{Acting, ActingKeeps, Comes, performing}
use Rattle.queue_device.specs.Chains.{Chain, Taken}
use Rattle.queue_device.specs.Confined.{IsChain, IsDeviceAct}
use Rattle.queue_device.specs.Left.{Hand}
use Rattle.queue_device.specs.Resuming.{Goes, IsShortChain, IsShortTaken, Resumes, serving_of, taking_of}
use Rattle.queue_device.specs.Sizes.{IsLength, IsReplyTo, IsSmallReply}
use Rattle.queue_device.proofs.Acting.{led_keeps, performing_acts, performing_keeps}
use Rattle.queue_device.proofs.Never.{never}
use Rattle.queue_device.proofs.Pieces.{filter_few, past_few, read_small}
use Rattle.balloon_device.specs.declared.kind.Stage.{Stage}
use Rattle.balloon_device.specs.declared.kind.Stage.TheVariants as stage
use Rattle.balloon_device.specs.declared.statistics.Statistics.{Statistics}
use Rattle.balloon_device.specs.Balloon.{Balloon, balloon, changed, nanoseconds, no_call, pages_done, served_by, tags_done, taken_by, unread}
use Rattle.balloon_device.specs.Pages.{inflated}
use Rattle.balloon_device.specs.Statistics.{Telling, all_told, no_statistics}
use Rattle.balloon_device.specs.Work.{AnyBalloon, AreSmall, IsSizedData, IsSmallStage, SizedStage, hand_of, is_sized_work, is_work, list_left, sized_hand, tags_left, zeros_left}
use Rattle.balloon_device.proofs.Balloon.{numbers_keep, zeros_keep}
use Rattle.balloon_device.proofs.Entries.{begun_few, told_all}
use Rattle.balloon_device.proofs.SmallEntries.{entries_small, none_small}
use Rattle.balloon_device.proofs.Pieces.{read_keeps}
use Rattle.balloon_device.proofs.Stages.{Reads, Zeroes, list_of, reads_of, test_of_list, test_of_reads, test_of_zeros, zeros_of}
use Rattle.balloon_device.proofs.Working.{collected, list_asked, list_done, list_led, list_read, listing, number_inside, number_outside, tags_asked, tags_end, tags_led, tags_read, tags_same, telling, zeros_asked, zeros_led}

-- ---- no work but a chain's service

no_answer : (pages : ℕ) (g : Stage) → is_work work.Answer pages g ≡ true → ⊥
no_answer pages stage.Rest is = cc
no_answer pages (stage.List list n) is = cc
no_answer pages (stage.Zeros list n left at) is = cc
no_answer pages (stage.Tags from s) is = cc

no_take : (pages : ℕ) (k : Which) (g : Stage) → is_work (work.Take k) pages g ≡ true → ⊥
no_take pages k stage.Rest is = cc
no_take pages k (stage.List list n) is = cc
no_take pages k (stage.Zeros list n left at) is = cc
no_take pages k (stage.Tags from s) is = cc

-- ---- what is left keeps to its own

module _ (port pages : ℕ) where
  list_keeps : (list : Collect) → AreInside pages list.from
      → Keeps (IsDeviceAct false no_call port pages) (Any {A = List ℕ}) (list_left pages list)
  list_keeps list inside =
      let each = numbers_keep port pages pages (λ few. refl) in
      keeps_then (IsDeviceAct false no_call port pages) (Any {A = List ℕ}) (Any {A = List ℕ}) _ _
      (each (length list.held / 4) list.held)
      (λ begun any. read_keeps (listing pages) port pages (λ begun piece. each (length (begun ++ piece) / 4) (begun ++ piece))
      begun list.from (λ few. inside))

  tags_keep : (from : Collect) (s : Statistics) → AreInside pages from.from
      → Keeps (IsDeviceAct false no_call port pages) (Any {A = Statistics}) (tags_left from s)
  tags_keep from s inside =
      keeps_then (IsDeviceAct false no_call port pages) (Any {A = Telling}) (Any {A = Statistics}) _ _
      (read_keeps telling port pages (λ t piece. tt) (all_told from.held s) from.from (λ few. inside)) (λ t any. tt)

  abbrev Stays : Stage → Type 0
  Stays g =
      IsDeviceAct false no_call port pages (hand_of g).op
      × ((e : Balloon) (reply : Reply) → Fits (hand_of g).op reply
      → ActingKeeps (IsDeviceAct false no_call port pages) Any ((hand_of g).serving e reply))

  list_stays : (list : Collect) → Reads pages 4 list → Stays (stage.List list pages)
  list_stays list v =
      let on = led_keeps (IsDeviceAct false no_call port pages) (Any {A = List ℕ}) (list_left pages list) _
      (list_asked pages list.from list.held v.short v.space) (list_keeps list v.inside) in (
        on.0,
        λ e reply fit. performing_keeps (IsDeviceAct false no_call port pages) (Any {A = List ℕ}) Any
            (led (list_left pages list) reply) e pages_done (on.1 reply fit) (λ f begun held. tt),
      )

  zeros_stay : (list : Collect) (left at : ℕ) → Zeroes pages list left at → Stays (stage.Zeros list pages left at)
  zeros_stay list left at v =
      let keeps = keeps_then (IsDeviceAct false no_call port pages) (Any {A = Unit {0}}) (Any {A = List ℕ}) _ _
      (zeros_keep port pages left at v.low (λ few. v.high)) (λ done any. list_keeps list v.inside) in
      let on = led_keeps (IsDeviceAct false no_call port pages) (Any {A = List ℕ}) (zeros_left pages list left at) _
      (zeros_asked pages list left at v.some) keeps in (
        on.0,
        λ e reply fit. performing_keeps (IsDeviceAct false no_call port pages) (Any {A = List ℕ}) Any
            (led (zeros_left pages list left at) reply) e pages_done (on.1 reply fit) (λ f begun held. tt),
      )

  tags_stay : (from : Collect) (s : Statistics) → Reads pages 10 from → Stays (stage.Tags from s)
  tags_stay from s v =
      let on = led_keeps (IsDeviceAct false no_call port pages) (Any {A = Statistics}) (tags_left from s) _
      (tags_asked from.from from.held s (told_all from.held s v.short) v.space) (tags_keep from s v.inside) in (
        on.0,
        λ e reply fit. performing_keeps (IsDeviceAct false no_call port pages) (Any {A = Statistics}) Any
            (led (tags_left from s) reply) e tags_done (on.1 reply fit) (λ f told held. tt),
      )

  serving_stays : (k : Which) (g : Stage) → is_work (work.Serve k) pages g ≡ true → Stays g
  serving_stays First stage.Rest is = absurd (cc)
  serving_stays First (stage.List list n) is =
      let v = list_of pages n list is in
      subst (λ (m : ℕ). Stays (stage.List list m)) (sym v.0) (list_stays list v.1)
  serving_stays First (stage.Zeros list n left at) is =
      let v = zeros_of pages n left at list is in
      subst (λ (m : ℕ). Stays (stage.Zeros list m left at)) (sym v.0) (zeros_stay list left at v.1)
  serving_stays First (stage.Tags from s) is = absurd (cc)
  serving_stays Second g is = absurd (cc)
  serving_stays Third stage.Rest is = absurd (cc)
  serving_stays Third (stage.List list n) is = absurd (cc)
  serving_stays Third (stage.Zeros list n left at) is = absurd (cc)
  serving_stays Third (stage.Tags from s) is = tags_stay from s (reads_of pages 10 from is)

-- ---- what is kept behind an act

-- a piece has at most 64 bytes
piece_few : (held : List ℕ) (from : List Part) (reply : Reply) → Fits (Read (place from) (room from)) reply
    → length (held ++ read_bytes (room from) reply) ≤ length held + 64
piece_few held from reply fit = omega (
  arith,
  length-append held (read_bytes (room from) reply),
  bytes_fit (place from) (room from) reply fit,
  bytes.most from,
)

module _ (sized : Bool) (pages : ℕ) where
  abbrev Serves : Which → Acting Balloon (Option ℕ) → Type 0
  Serves k t =
      Goes balloon (sized_hand sized) (is_sized_work sized) (IsSizedData sized) sized serving_of (work.Serve k) pages (IsLength sized) t

  abbrev Fine : Balloon → Type 0
  Fine e = IsSizedData sized e

  abbrev AreBytes : List ℕ → Type 0
  AreBytes bytes = sized ≡ true → All IsByte bytes

  abbrev AreTold : Statistics → Type 0
  AreTold s = sized ≡ true → AreSmall s

  -- no byte was written
  none_long : IsLength sized (Some 0)
  none_long = λ is. omega arith

  abbrev Lists : Doing (List ℕ) → Balloon → Type 0
  Lists t e = Serves First (performing t e pages_done)

  -- ---- a list of pages

  -- no whole number is held
  rest_on : (n : ℕ) (from : List Part) (held : List ℕ) (e : Balloon) → room from ≡ n → Fine e → AreBytes held
      → length held < 4 → AreInside pages from → length from ≤ 256 → Lists (list_left pages (collected from held)) e
  rest_on zero from held e is fine bytes short inside few =
      inr (record {
        own = e;
        result = Some 0;
        fine = fine;
        is = none_long;
        left = ap (λ (t : Doing (List ℕ)). performing t e pages_done) (list_done pages from held short is);
      })
  rest_on (suc n) from held e is fine bytes short inside few =
      let some : 0 < room from = omega (arith, is) in
      inl (record {
        own = e;
        stage = record { stage = stage.List (collected from held) pages; small = bytes };
        fine = fine;
        is = test_of_list pages (collected from held) (record { short = short; space = some; inside = inside; few = few });
        left =
            performing_acts (list_left pages (collected from held)) e pages_done _
            (list_asked pages from held short some);
      })

  -- the page of the first number is zeroed
  page_on : (from : List Part) (held : List ℕ) (e : Balloon) → Fine e → AreBytes held → 4 ≤ length held → length held < 68
      → is_inside pages (page_size * field_at held 0 4) page_size ≡ true → AreInside pages from → length from ≤ 256
      → Lists (list_left pages (collected from held)) e
  page_on from held e fine bytes some most there inside few =
      let at : ℕ = page_size * field_at held 0 4 in
      let list : Collect = collected from (drop 4 held) in
      let ram = of_ram pages at page_size there in
      inl (record {
        own = e;
        stage = record { stage = stage.Zeros list pages 64 at; small = λ is. All-drop IsByte 4 held (bytes is) };
        fine = fine;
        is =
            test_of_zeros pages 64 at list
            (record {
              some = omega arith;
              most = omega arith;
              low = ram.0;
              high = omega (arith, ram.1);
              short = omega (arith, most, some, length-drop 4 held);
              inside = inside;
              few = few;
            });
        left =
            ap (λ (t : Doing (List ℕ)). performing t e pages_done) (number_inside pages from held some there)
            ∙ performing_acts (zeros_left pages list 64 at) e pages_done _ (zeros_asked pages list 64 at (omega arith));
      })

  -- or it is skipped, and the others behind it go on
  number_on : (test : Bool) (from : List Part) (held : List ℕ) (e : Balloon)
      → is_inside pages (page_size * field_at held 0 4) page_size ≡ test → Fine e → AreBytes held → 4 ≤ length held
      → length held < 68 → AreInside pages from → length from ≤ 256 → Lists (list_left pages (collected from (drop 4 held))) e
      → Lists (list_left pages (collected from held)) e
  number_on true from held e is fine bytes some most inside few again = page_on from held e fine bytes some most is inside few
  number_on false from held e is fine bytes some most inside few again =
      subst (λ (t : Doing (List ℕ)). Lists t e) (sym (number_outside pages from held some is)) again

  held_on : (test : Bool) (from : List Part) (held : List ℕ) (e : Balloon) → nat_lt (length held) 4 ≡ test → Fine e
      → AreBytes held → length held < 68 → AreInside pages from → length from ≤ 256
      → (4 ≤ length held → Lists (list_left pages (collected from (drop 4 held))) e)
      → Lists (list_left pages (collected from held)) e
  held_on true from held e is fine bytes most inside few again =
      rest_on (room from) from held e refl fine bytes (ltb-true _ _ is) inside few
  held_on false from held e is fine bytes most inside few again =
      let some : 4 ≤ length held = ltb-false _ _ is in
      number_on (is_inside pages (page_size * field_at held 0 4) page_size) from held e refl fine bytes some most inside few
      (again some)

  -- at most so many whole numbers are held
  list_on : (count : ℕ) (from : List Part) (held : List ℕ) (e : Balloon) → Fine e → AreBytes held
      → length held < 4 * count + 4 → length held < 68 → AreInside pages from → length from ≤ 256 → Lists (list_left pages (collected from held)) e
  list_on zero from held e fine bytes bound most inside few =
      rest_on (room from) from held e refl fine bytes (omega (arith, bound)) inside few
  list_on (suc count) from held e fine bytes bound most inside few =
      held_on (nat_lt (length held) 4) from held e refl fine bytes most inside few (λ some.
      list_on count from (drop 4 held) e fine (λ is. All-drop IsByte 4 held (bytes is))
      (omega (arith, bound, some, length-drop 4 held))
      (omega (arith, most, some, length-drop 4 held)) inside few)

  -- what was held and what a reply brings
  more_bytes : (n : ℕ) (held : List ℕ) (reply : Reply) → AreBytes held → (sized ≡ true → IsSmallReply reply)
      → AreBytes (held ++ read_bytes n reply)
  more_bytes n held reply bytes seen =
      λ is. All-append IsByte held (read_bytes n reply) (bytes is) (read_small n reply (seen is))

  list_next : (list : Collect) (e : Balloon) (reply : Reply) → pages < 2 ^ 32 → Fine e → AreBytes list.held → Reads pages 4 list
      → IsReplyTo sized (Read (place list.from) (room list.from)) reply → Lists (led (list_left pages list) reply) e
  list_next list e reply small fine bytes v fit =
      let n = room list.from in
      let all = piece_few list.held list.from reply fit.0 in
      subst (λ (t : Doing (List ℕ)). Lists t e) (sym (list_led pages list.from list.held reply v.short v.space))
      (list_on 17 (past n list.from) (list.held ++ read_bytes n reply) e fine (more_bytes n list.held reply bytes fit.1)
      (omega (arith, all, v.short))
      (omega (arith, all, v.short)) (past_inside pages n list.from small v.inside (omega arith))
      (past_few n 256 list.from v.few))

  zeros_on : (left at : ℕ) (list : Collect) (e : Balloon) → Fine e → AreBytes list.held → left ≤ 64 → 0x80000000 ≤ at
      → at + 64 * left ≤ 0x80000000 + 4096 * pages → length list.held < 64 → AreInside pages list.from
      → length list.from ≤ 256 → Lists (zeros_left pages list left at) e
  zeros_on zero at list e fine bytes most low high short inside few =
      list_on 17 list.from list.held e fine bytes (omega (arith, short)) (omega (arith, short)) inside few
  zeros_on (suc left) at list e fine bytes most low high short inside few =
      inl (record {
        own = e;
        stage = record { stage = stage.Zeros list pages (suc left) at; small = bytes };
        fine = fine;
        is =
            test_of_zeros pages (suc left) at list
            (record {
              some = omega arith;
              most = most;
              low = low;
              high = high;
              short = short;
              inside = inside;
              few = few;
            });
        left =
            performing_acts (zeros_left pages list (suc left) at) e pages_done _
            (zeros_asked pages list (suc left) at (omega arith));
      })

  zeros_next : (list : Collect) (left at : ℕ) (e : Balloon) (reply : Reply) → Fine e → AreBytes list.held
      → Zeroes pages list left at → Lists (led (zeros_left pages list left at) reply) e
  zeros_next list left at e reply fine bytes v =
      subst (λ (t : Doing (List ℕ)). Lists t e) (sym (zeros_led pages list left at reply v.some))
      (zeros_on (left - 1) (at + 64) list e fine bytes (omega (arith, v.most)) (omega (arith, v.low)) (omega (arith, v.high, v.some))
      v.short v.inside v.few)

  -- ---- statistics

  abbrev Tells : Doing Statistics → Balloon → Type 0
  Tells t e = Serves Third (performing t e tags_done)

  -- no whole entry is held
  tags_rest : (n : ℕ) (from : List Part) (held : List ℕ) (s : Statistics) (e : Balloon) → room from ≡ n → Fine e
      → AreBytes held → AreTold s → length held < 10 → AreInside pages from → length from ≤ 256 → Tells (tags_left (collected from held) s) e
  tags_rest zero from held s e is fine bytes small short inside few =
      inr (record {
        own = record e { statistics = s };
        result = Some 0;
        fine = λ yes. let was = fine yes in record { interval = was.interval; last = was.last; statistics = small yes };
        is = none_long;
        left =
            ap (λ (t : Doing Statistics). performing t e tags_done) (tags_end from held s (told_all held s short) is);
      })
  tags_rest (suc n) from held s e is fine bytes small short inside few =
      let some : 0 < room from = omega (arith, is) in
      inl (record {
        own = e;
        stage = record { stage = stage.Tags (collected from held) s; small = λ yes. (bytes yes, small yes) };
        fine = fine;
        is =
            test_of_reads pages 10 (collected from held)
            (record { short = short; space = some; inside = inside; few = few });
        left =
            performing_acts (tags_left (collected from held) s) e tags_done _
            (tags_asked from held s (told_all held s short) some);
      })

  tags_on : (from : List Part) (held : List ℕ) (s : Statistics) (e : Balloon) → Fine e → AreBytes held → AreTold s
      → AreInside pages from → length from ≤ 256 → Tells (tags_left (collected from held) s) e
  tags_on from held s e fine bytes small inside few =
      let t : Telling = all_told held s in
      let short : length t.begun < 10 = begun_few held s in
      subst (λ (d : Doing Statistics). Tells d e)
      (sym (tags_same from held t.begun s t.so_far refl (told_all t.begun t.so_far short)))
      (tags_rest (room from) from t.begun t.so_far e refl fine (λ yes. All-drop IsByte _ held (bytes yes))
      (λ yes. entries_small (length held / 10) held s (bytes yes) (small yes)) short inside few)

  tags_next : (from : Collect) (s : Statistics) (e : Balloon) (reply : Reply) → pages < 2 ^ 32 → Fine e → AreBytes from.held
      → AreTold s → Reads pages 10 from → (sized ≡ true → IsSmallReply reply) → Tells (led (tags_left from s) reply) e
  tags_next from s e reply small fine bytes told v seen =
      let n = room from.from in
      subst (λ (d : Doing Statistics). Tells d e)
      (sym (tags_led from.from from.held s reply (told_all from.held s v.short) v.space))
      (tags_on (past n from.from) (from.held ++ read_bytes n reply) s e fine (more_bytes n from.held reply bytes seen) told
      (past_inside pages n from.from small v.inside (omega arith)) (past_few n 256 from.from v.few))

  -- ---- a chain

  serving : (k : Which) (g : SizedStage sized) (e : Balloon) (reply : Reply) → pages < 2 ^ 32 → Fine e
      → is_sized_work sized (work.Serve k) pages g ≡ true → IsReplyTo sized (sized_hand sized g).op reply
      → Serves k ((sized_hand sized g).serving e reply)
  serving k g e reply small fine is fit = serving_at k g.stage e reply small fine g.small is fit
    where
      serving_at : (k : Which) (g : Stage) (e : Balloon) (reply : Reply) → pages < 2 ^ 32 → Fine e
          → (sized ≡ true → IsSmallStage g) → is_work (work.Serve k) pages g ≡ true → IsReplyTo sized (hand_of g).op reply
          → Serves k ((hand_of g).serving e reply)
      serving_at First stage.Rest e reply small fine own is fit = absurd (cc)
      serving_at First (stage.List list n) e reply small fine own is fit =
          let v = list_of pages n list is in
          subst (λ (m : ℕ). Serves First ((hand_of (stage.List list m)).serving e reply)) (sym v.0)
          (list_next list e reply small fine own v.1 fit)
      serving_at First (stage.Zeros list n left at) e reply small fine own is fit =
          let v = zeros_of pages n left at list is in
          subst (λ (m : ℕ). Serves First ((hand_of (stage.Zeros list m left at)).serving e reply)) (sym v.0)
          (zeros_next list left at e reply fine own v.1)
      serving_at First (stage.Tags from s) e reply small fine own is fit = absurd (cc)
      serving_at Second g e reply small fine own is fit = absurd (cc)
      serving_at Third stage.Rest e reply small fine own is fit = absurd (cc)
      serving_at Third (stage.List list n) e reply small fine own is fit = absurd (cc)
      serving_at Third (stage.Zeros list n left at) e reply small fine own is fit = absurd (cc)
      serving_at Third (stage.Tags from s) e reply small fine own is fit =
          tags_next from s e reply small fine (λ yes. (own yes).0) (λ yes. (own yes).1) (reads_of pages 10 from is) fit.1

  serve : (k : Which) (c : Chain) (e : Balloon) → Fine e → IsChain balloon pages k c → IsShortChain sized (Some c)
      → Serves k (served_by k c e)
  serve First c e fine chain short =
      let parts : List Part = readable c.parts in
      let count : length parts ≤ length c.parts = filter_few _ c.parts in
      subst (λ (m : ℕ). Serves First (performing (inflated m parts) e pages_done)) (sym chain.pages_are)
      (subst (λ (t : Doing (List ℕ)). Lists t e) (list_read pages parts [] (omega arith))
      (list_on 0 parts [] e fine (λ yes. All-nil IsByte) (omega arith) (omega arith) (filter_inside pages _ c.parts chain.parts)
      (omega (arith, count, short.0))))
  serve Second c e fine chain short = inr (record { own = e; result = Some 0; fine = fine; is = none_long; left = refl })
  serve Third c e fine chain short =
      let parts : List Part = readable c.parts in
      let count : length parts ≤ length c.parts = filter_few _ c.parts in
      subst (λ (d : Doing Statistics). Tells d e)
      (tags_read parts [] no_statistics (told_all [] no_statistics (omega arith)))
      (tags_on parts [] no_statistics e fine (λ yes. All-nil IsByte) (λ yes. none_small)
      (filter_inside pages _ c.parts chain.parts) (omega (arith, count, short.0)))

  -- all parts of a chain are kept, or it breaks its queue
  abbrev Takes : Which → Acting Balloon (Option Taken) → Type 0
  Takes k t =
      Goes balloon (sized_hand sized) (is_sized_work sized) (IsSizedData sized) sized taking_of (work.Take k) pages
      (IsShortTaken balloon sized pages k) t

  take_by : (k : Which) (test : Bool) (parts : List Part) (e : Balloon) → Fine e → AreInside pages parts → length parts ≤ 256
      → Takes k (if test then Comes e (Some (unread parts)) else Comes e None)
  take_by k true parts e fine inside few =
      inr (record {
        own = e;
        result = Some (unread parts);
        fine = fine;
        is = ((inside, tt, refl), (few, omega arith, omega arith, λ yes. All-nil IsByte));
        left = refl;
      })
  take_by k false parts e fine inside few = inr (record { own = e; result = None; fine = fine; is = (tt, tt); left = refl })

  take : (k : Which) (parts : List Part) (e : Balloon) → Fine e → AreInside pages parts → length parts ≤ 256
      → Takes k (taken_by k parts e)
  take First parts e fine inside few = take_by First (total (readable parts) % 4 == 0) parts e fine inside few
  take Second parts e fine inside few = take_by Second (total (readable parts) % 4 == 0) parts e fine inside few
  take Third parts e fine inside few = take_by Third true parts e fine inside few

-- a chain of statistics that is let go on leaves its moment
passed_by : (sized test : Bool) (now : ℕ) (e f : Balloon) → (sized ≡ true → now < 2 ^ 64) → IsSizedData sized e
    → (if test then Some (record e { last = now }) else None) ≡ Some f → IsSizedData sized f
passed_by sized false now e f early fine is = absurd (cc)
passed_by sized true now e f early fine is =
    subst (IsSizedData sized) (let same : (record e { last = now }) ≡ f = cc in same)
    (λ yes. let was = fine yes in record { interval = was.interval; last = early yes; statistics = was.statistics })

pub resumes_sized : (sized : Bool)
    → Resumes balloon (sized_hand sized) (is_sized_work sized) (IsSizedData sized) sized (setting changed) true no_call
resumes_sized sized = record {
  rest = record { stage = stage.Rest; small = λ yes. tt };
  rests = λ pages. refl;
  answering_stays = λ port pages g is. absurd (no_answer pages g.stage is);
  taking_stays = λ port pages k g is. absurd (no_take pages k g.stage is);
  serving_stays = λ port pages k g is. serving_stays port pages k g.stage is;
  answer = λ pages before e reply small fine fit.
      inr (record { own = e; result = false; fine = fine; is = tt; left = refl });
  answering = λ pages g e reply small fine is fit. absurd (no_answer pages g.stage is);
  take = λ pages k parts e small fine inside few. take sized pages k parts e fine inside few;
  taking = λ pages k g e reply small fine is fit. absurd (no_take pages k g.stage is);
  serve = λ pages k c e small fine chain short. serve sized pages k c e fine chain short;
  serving = λ pages k g e reply small fine is fit. serving sized pages k g e reply (omega (arith, small)) fine is fit;
  begun = λ k e fine. fine;
  passes = λ pages k c now e f small early fine chain short is.
      passed_by sized (nat_le (e.last + nanoseconds e.interval) now) now e f early fine is;
  over = λ k e fine. fine;
  reset = λ e fine is. record { interval = (fine is).interval; last = omega arith; statistics = none_small };
  cut = λ c e op reply is. absurd (cc);
}

-- where replies needn't be small, by the stage alone
abbrev plain : Stage → SizedStage false
plain g = record { stage = g; small = never }

module _ {A : Type 0} (lead : Hand Balloon → Balloon → Reply → Acting Balloon A) (at : Work) (pages : ℕ) (Q : A → Type 0) where
  plainly : (t : Acting Balloon A)
      → Goes balloon (sized_hand false) (is_sized_work false) (IsSizedData false) false lead at pages Q t
      → Goes balloon hand_of is_work AnyBalloon false lead at pages Q t
  plainly t (inl g) = inl (record { own = g.own; stage = g.stage.stage; fine = tt; is = g.is; left = g.left })
  plainly t (inr h) = inr (record { own = h.own; result = h.result; fine = tt; is = h.is; left = h.left })

pub resumes : Resumes balloon hand_of is_work AnyBalloon false (setting changed) true no_call
resumes =
    let own = resumes_sized false in
    record {
      rest = stage.Rest;
      rests = λ pages. refl;
      answering_stays = λ port pages g is. absurd (no_answer pages g is);
      taking_stays = λ port pages k g is. absurd (no_take pages k g is);
      serving_stays = serving_stays;
      answer = λ pages before e reply small fine fit.
          inr (record { own = e; result = false; fine = tt; is = tt; left = refl });
      answering = λ pages g e reply small fine is fit. absurd (no_answer pages g is);
      take = λ pages k parts e small fine inside few.
          plainly taking_of (work.Take k) pages (IsShortTaken balloon false pages k) _ (own.take pages k parts e small never inside few);
      taking = λ pages k g e reply small fine is fit. absurd (no_take pages k g is);
      serve = λ pages k c e small fine chain short.
          plainly serving_of (work.Serve k) pages (IsLength false) _ (own.serve pages k c e small never chain short);
      serving = λ pages k g e reply small fine is fit.
          plainly serving_of (work.Serve k) pages (IsLength false) _ (own.serving pages k (plain g) e reply small never is fit);
      begun = λ k e fine. tt;
      passes = λ pages k c now e f small early fine chain short is. tt;
      over = λ k e fine. tt;
      reset = λ e fine. tt;
      cut = λ c e op reply is. never;
    }
