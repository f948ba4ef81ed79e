-- Where a reply leads the service of a request: to a stage with what it holds, or to the end.
use Rattle.std.proofs.Common.{◌≡◌, ℕ, zero, suc, ◌+◌, ◌-◌, ◌/◌, ◌%◌, ◌^◌, ◌==◌, ◌<◌, ◌≤◌, ◌||◌, refl, sym, ap, subst, Bool, true, false, if◌then◌else◌, List, [], ◌++◌, length, length-append, length-drop, drop, arith, ◌⊎◌, inl, inr}
use Rattle.std.proofs.lemmas.Bool.{eqb-true}
use Rattle.std.proofs.lemmas.List.Elements.{All-append, All-drop, All-nil}
use Rattle.vm_types.specs.declared.op.Op.TheVariants.{Out}
use Rattle.vm_types.specs.declared.op.OutOp.TheVariants.{DiskRead}
use Rattle.vm_types.specs.declared.reply.Reply.{Reply}
use Rattle.vm_types.specs.declared.reply.Reply.TheVariants.{Bytes, Done}
use Rattle.device_trace.specs.Doing.{Doing, Gives, led, and_then}
use Rattle.le_fields.specs.Fields.{IsByte}
use Rattle.vq_split.specs.declared.queue.Part.{Part}
use Rattle.vq_split.specs.Chain.{read_bytes}
use Rattle.vq_split.specs.Inside.{AreInside}
use Rattle.dev_core.specs.declared.collect.Collect.{Collect}
use Rattle.dev_core.specs.Collecting.{nothing}
use Rattle.dev_core.specs.Pieces.{Got, past, place, put_all, room, share}
use Rattle.vq_split.proofs.Steps.{bytes_fit}
use Rattle.dev_core.proofs.Fuel.{collect_done, collect_led, put_done, some_of}
use Rattle.dev_core.proofs.Inside.{past_inside}
use Rattle.queue_device.specs.Chains.{got_of}
use Rattle.queue_device.specs.Sizes.{IsReplyTo}
use Rattle.queue_device.proofs.Pieces.{more_of, past_few, read_small, room_most}
use Rattle.block_device.specs.declared.stage.ServiceStage.{ServiceStage}
use Rattle.block_device.specs.declared.stage.ServiceStage.TheVariants as stage
use Rattle.block_device.specs.Service.{behind_unit, done_by, done_status, id_put, io_error, ok, read_by, sector_of, status_written, unit_written, units_in, units_out, used_of}
use Rattle.block_device.specs.Serving.{ArePlaced, IsStage, IsWithin, serving_left, serving_op}
use Rattle.block_device.specs.Working.{IsHeld, IsSmallStage}
use Rattle.block_device.proofs.Kept.{ArePart}
use Rattle.block_device.proofs.Moves.{in_wrapped, out_wrapped}
use Rattle.block_device.proofs.Steps.{gather_next, put_next}

-- What is kept of a request of which this is left, in a guest of so many pages, with its status at this place. Where each reply
-- was small, so is it.
pub record Serves (sized : Bool) (pages at : ℕ) (t : Doing ℕ) : Type 0 where
  pub stage : ServiceStage
  pub from : Collect
  pub to : List Part
  pub is : IsStage stage from to
  pub placed : ArePlaced pages from to
  pub few : length to ≤ 256
  pub fewer : length from.from ≤ 256
  pub bytes : sized ≡ true → IsHeld from.held
  pub narrow : sized ≡ true → IsSmallStage stage
  pub left : serving_left stage from to at ≡ t

-- or its used length
abbrev pub ServesOn : Bool → ℕ → ℕ → Doing ℕ → Type 0
ServesOn sized pages at t = Serves sized pages at t ⊎ ((used : ℕ) × (t ≡ Gives used) × (sized ≡ true → used < 2 ^ 32))

apart_of : (n m : ℕ) → (n == m) ≡ false → n ≤ m → n < m
apart_of n m is most = grind arith

done_small : (reply : Reply) → done_status reply < 2 ^ 8
done_small Done = omega arith
done_small reply = omega arith

module _ (sized : Bool) (pages at : ℕ) where
  -- these are bytes, where each reply was small
  abbrev AreBytes : List ℕ → Type 0
  AreBytes bytes = sized ≡ true → IsHeld bytes

  pub behind : (n : ℕ) (bytes : List ℕ) → AreBytes bytes → AreBytes (drop n bytes)
  behind n bytes are on =
      let most = (are on).0 in
      (omega (arith, most, length-drop n bytes), All-drop IsByte n bytes (are on).1)

  abbrev IsStatus : ℕ → ℕ → Type 0
  IsStatus status used = sized ≡ true → (status < 2 ^ 8) × (used < 2 ^ 32)

  none_held : AreBytes []
  none_held is = (omega arith, All-nil IsByte)

  pub moved : (t u : Doing ℕ) → t ≡ u → Serves sized pages at t → Serves sized pages at u
  moved t u same is = subst (Serves sized pages at) same is

  pub serves_if : (test : Bool) (x y : Doing ℕ) → (test ≡ true → Serves sized pages at x)
      → (test ≡ false → Serves sized pages at y) → Serves sized pages at (if test then x else y)
  serves_if true x y on off = on refl
  serves_if false x y on off = off refl

  -- the status is left
  pub ends : (status used : ℕ) → IsStatus status used → Serves sized pages at (status_written at status used)
  ends status used small = record {
    stage = stage.Status status used;
    from = nothing;
    to = [];
    is = (refl, refl);
    placed = (tt, tt);
    few = omega arith;
    fewer = omega arith;
    bytes = none_held;
    narrow = small;
    left = refl;
  }

  -- ---- units are read

  reads_unit : (test : Bool) (more unit sector : ℕ) (to : List Part) → (unit == 2 ^ 26) ≡ test → unit ≤ 2 ^ 26
      → IsWithin sector unit more → AreInside pages to → length to ≤ 256
      → Serves sized pages at (units_in (suc more) unit sector to at)
  reads_unit true more unit sector to test most within inside few =
      let is = eqb-true unit (2 ^ 26) test in
      let units : 0 + (suc more - 1) < 2 ^ 50 = omega (arith, within.units) in
      let end : sector + 2 ^ 23 + (0 + (suc more - 1)) / 8 < 2 ^ 64 = omega (arith, is, within.inside) in
      record {
        stage = stage.Read (sector + 2 ^ 23) 0 (suc more - 1);
        from = nothing;
        to = to;
        is = (record { units = units; inside = end }, refl, omega arith);
        placed = (tt, inside);
        few = few;
        fewer = omega arith;
        bytes = none_held;
        narrow = λ is. tt;
        left = in_wrapped (suc more) unit sector to at (omega arith) is;
      }
  reads_unit false more unit sector to test most within inside few = record {
    stage = stage.Read sector unit more;
    from = nothing;
    to = to;
    is = (within, refl, apart_of unit (2 ^ 26) test most);
    placed = (tt, inside);
    few = few;
    fewer = omega arith;
    bytes = none_held;
    narrow = λ is. tt;
    left = refl;
  }

  pub reads_on : (units unit sector : ℕ) (to : List Part) → unit ≤ 2 ^ 26 → unit + units ≤ 2 ^ 50
      → sector + (unit + units - 1) / 8 < 2 ^ 64 → AreInside pages to → length to ≤ 256
      → Serves sized pages at (units_in units unit sector to at)
  reads_on zero unit sector to most count end inside few = ends ok (used_of unit) (λ is. (omega arith, omega arith))
  reads_on (suc more) unit sector to most count end inside few =
      reads_unit (unit == 2 ^ 26) more unit sector to refl most
      (record { units = omega (arith, count); inside = omega (arith, end) }) inside few

  puts_share : (test : Bool) (held : List ℕ) (to : List Part) (sector unit more : ℕ) → (share held to == 0) ≡ test
      → AreBytes held → IsWithin sector unit more → unit < 2 ^ 26 → AreInside pages to → length to ≤ 256
      → Serves sized pages at (and_then (put_all held to) (λ left. units_in more (unit + 1) sector left at))
  puts_share true held to sector unit more test bytes within below inside few =
      moved (units_in more (unit + 1) sector to at) _
      (sym (ap (λ t. and_then t (λ left. units_in more (unit + 1) sector left at)) (put_done held to test)))
      (reads_on more (unit + 1) sector to (omega (arith, below)) (omega (arith, within.units))
      (omega (arith, within.inside)) inside few)
  puts_share false held to sector unit more test bytes within below inside few = record {
    stage = stage.Put sector unit more;
    from = record { from = []; held = held };
    to = to;
    is = (within, refl, some_of (share held to) test, below);
    placed = (tt, inside);
    few = few;
    fewer = omega arith;
    bytes = bytes;
    narrow = λ is. tt;
    left = refl;
  }

  pub puts_on : (held : List ℕ) (to : List Part) (sector unit more : ℕ) → AreBytes held → IsWithin sector unit more → unit < 2 ^ 26
      → AreInside pages to → length to ≤ 256
      → Serves sized pages at (and_then (put_all held to) (λ left. units_in more (unit + 1) sector left at))
  puts_on held to sector unit more bytes within below inside few =
      puts_share (share held to == 0) held to sector unit more refl bytes within below inside few

  -- ---- the id is put

  puts_id_share : (test : Bool) (held : List ℕ) (to : List Part) → (share held to == 0) ≡ test → AreBytes held → AreInside pages to
      → length to ≤ 256 → Serves sized pages at (id_put held to at)
  puts_id_share true held to test bytes inside few =
      moved (status_written at ok 21) _
      (sym (ap (λ t. and_then t (λ left. status_written at ok 21)) (put_done held to test)))
      (ends ok 21 (λ is. (omega arith, omega arith)))
  puts_id_share false held to test bytes inside few = record {
    stage = stage.PutId;
    from = record { from = []; held = held };
    to = to;
    is = (refl, some_of (share held to) test);
    placed = (tt, inside);
    few = few;
    fewer = omega arith;
    bytes = bytes;
    narrow = λ is. tt;
    left = refl;
  }

  pub puts_id_on : (held : List ℕ) (to : List Part) → AreBytes held → AreInside pages to → length to ≤ 256
      → Serves sized pages at (id_put held to at)
  puts_id_on held to bytes inside few = puts_id_share (share held to == 0) held to refl bytes inside few

  -- ---- units are written

  gathers_unit : (test : Bool) (more part sector : ℕ) (got : Got)
      → ((64 - length got.bytes == 0) || (room got.parts == 0)) ≡ test → AreBytes got.bytes → part < 8 → IsWithin sector part more
      → ArePart pages got.parts → Serves sized pages at (units_out (suc more) part sector at got)
  gathers_unit true more part sector got test bytes below within inside =
      let on : Got → Doing ℕ = unit_written part sector at (units_out more (part + 1) sector at) in
      moved (on got) _ (sym (ap (λ t. and_then t on) (collect_done (64 - length got.bytes) got.bytes got.parts test)))
      (record {
        stage = stage.Disk sector part more;
        from = record { from = got.parts; held = got.bytes };
        to = [];
        is = (within, refl, below);
        placed = (inside.0, tt);
        few = omega arith;
        fewer = inside.1;
        bytes = bytes;
        narrow = λ is. tt;
        left = refl;
      })
  gathers_unit false more part sector got test bytes below within inside =
      let more_is = more_of 64 (length got.bytes) (room got.parts) test in
      record {
        stage = stage.Gather sector part more;
        from = record { from = got.parts; held = got.bytes };
        to = [];
        is = (within, refl, more_is.0, more_is.1, below);
        placed = (inside.0, tt);
        few = omega arith;
        fewer = inside.1;
        bytes = bytes;
        narrow = λ is. tt;
        left = refl;
      }

  pub gathers_on : (units part sector : ℕ) (got : Got) → AreBytes got.bytes → part < 8 → part + units ≤ 2 ^ 50
      → sector + (part + units - 1) / 8 < 2 ^ 64 → ArePart pages got.parts
      → Serves sized pages at (units_out units part sector at got)
  gathers_on zero part sector got bytes below count end inside = ends ok 1 (λ is. (omega arith, omega arith))
  gathers_on (suc more) part sector got bytes below count end inside =
      gathers_unit ((64 - length got.bytes == 0) || (room got.parts == 0)) more part sector got refl bytes below
      (record { units = omega (arith, count); inside = omega (arith, end) }) inside

  next_part : (test : Bool) (more part sector : ℕ) (got : Got) → (part == 7) ≡ test → AreBytes got.bytes → part < 8
      → IsWithin sector part (suc more) → ArePart pages got.parts
      → Serves sized pages at (units_out (suc more) (part + 1) sector at got)
  next_part true more part sector got test bytes below within inside =
      let is = eqb-true part 7 test in
      moved (units_out (suc more) 0 (sector + 1) at got) _ (out_wrapped (suc more) part sector at got is)
      (gathers_on (suc more) 0 (sector + 1) got bytes (omega arith) (omega (arith, within.units))
      (omega (arith, is, within.inside)) inside)
  next_part false more part sector got test bytes below within inside =
      let apart = apart_of part 7 test (omega (arith, below)) in
      gathers_on (suc more) (part + 1) sector got bytes (omega (arith, apart)) (omega (arith, within.units))
      (omega (arith, within.inside)) inside

  pub next_on : (units part sector : ℕ) (got : Got) → AreBytes got.bytes → part < 8 → IsWithin sector part units
      → ArePart pages got.parts → Serves sized pages at (units_out units (part + 1) sector at got)
  next_on zero part sector got bytes below within inside = ends ok 1 (λ is. (omega arith, omega arith))
  next_on (suc more) part sector got bytes below within inside =
      next_part (part == 7) more part sector got refl bytes below within inside

  -- ---- a reply came

  read_came : (sector part : ℕ) (reply : Reply) (good : List ℕ → Doing ℕ) (bad : Doing ℕ)
      → IsReplyTo sized (Out (DiskRead sector part)) reply → ((piece : List ℕ) → AreBytes piece → Serves sized pages at (good piece))
      → Serves sized pages at bad → Serves sized pages at (read_by reply good bad)
  read_came sector part (Bytes piece) good bad fit on off =
      let long : length piece ≡ 64 = eqb-true (length piece) 64 fit.0 in
      on piece (λ yes. (omega (arith, long), fit.1 yes))
  read_came sector part reply good bad fit on off = off

  done_came : (reply : Reply) (good bad : Doing ℕ) → Serves sized pages at good → Serves sized pages at bad
      → Serves sized pages at (done_by reply good bad)
  done_came Done good bad on off = on
  done_came reply good bad on off = off

  gather_came : (sector part more : ℕ) (from : Collect) (to : List Part) (reply : Reply) → pages < 2 ^ 32
      → IsStage (stage.Gather sector part more) from to → ArePart pages from.from → AreBytes from.held
      → IsReplyTo sized (serving_op (stage.Gather sector part more) from to at) reply
      → Serves sized pages at (led (serving_left (stage.Gather sector part more) from to at) reply)
  gather_came sector part more from to reply small is inside bytes fit =
      let space = room from.from in
      let piece = read_bytes space reply in
      let long = bytes_fit (place from.from) space reply fit.0 in
      let now : Collect = record { from = past space from.from; held = from.held ++ piece } in
      let whole = collect_led 64 from.held piece from.from reply is.2 is.3 refl long in
      moved (units_out (more + 1) part sector at (got_of now)) _
      (gather_next from now sector part more at reply is.2 is.3 whole)
      (gathers_on (more + 1) part sector (got_of now)
      (λ yes. (
        omega (arith, is.2, long, room_most from.from, length-append from.held piece),
        All-append IsByte from.held piece (bytes yes).1 (read_small space reply (fit.1 yes)),
      )) is.4 (omega (arith, is.0.units)) (omega (arith, is.0.inside))
      (past_inside pages space from.from small inside.0 (omega arith), past_few space 256 from.from inside.1))

  pub serves_on : (s : ServiceStage) (from : Collect) (to : List Part) (reply : Reply) → pages < 2 ^ 32
      → IsStage s from to → ArePart pages from.from → ArePart pages to → AreBytes from.held → (sized ≡ true → IsSmallStage s)
      → IsReplyTo sized (serving_op s from to at) reply → ServesOn sized pages at (led (serving_left s from to at) reply)
  serves_on (stage.Read sector unit more) from to reply small is read put bytes narrow fit =
      inl (read_came (sector_of sector unit) (unit % 8) reply _ _ fit (λ piece all. puts_on piece to sector unit more all is.0 is.2 put.0 put.1)
      (ends io_error (used_of unit) (λ is. (omega arith, omega arith))))
  serves_on (stage.Put sector unit more) from to reply small is read put bytes narrow fit =
      let n = share from.held to in
      inl (moved _ _
      (put_next from.held (drop n from.held) to (past n to) n (λ left. units_in more (unit + 1) sector left at) reply is.2
      refl refl refl)
      (puts_on (drop n from.held) (past n to) sector unit more (behind n from.held bytes) is.0 is.3
      (past_inside pages n to small put.0 (omega arith)) (past_few n 256 to put.1)))
  serves_on stage.PutId from to reply small is read put bytes narrow fit =
      let n = share from.held to in
      inl (moved _ _
      (put_next from.held (drop n from.held) to (past n to) n (λ left. status_written at ok 21) reply is.1 refl refl refl)
      (puts_id_on (drop n from.held) (past n to) (behind n from.held bytes) (past_inside pages n to small put.0 (omega arith))
      (past_few n 256 to put.1)))
  serves_on (stage.Gather sector part more) from to reply small is read put bytes narrow fit =
      inl (gather_came sector part more from to reply small is read bytes fit)
  serves_on (stage.Disk sector part more) from to reply small is read put bytes narrow fit =
      inl (done_came reply _ _
      (next_on more part sector (behind_unit (got_of from)) (behind _ from.held bytes) is.2 is.0 read)
      (ends io_error 1 (λ is. (omega arith, omega arith))))
  serves_on stage.Flush from to reply small is read put bytes narrow fit =
      inl (ends (done_status reply) 1 (λ is. (done_small reply, omega arith)))
  serves_on (stage.Status status used) from to reply small is read put bytes narrow fit =
      inr (used, refl, λ yes. (narrow yes).1)
