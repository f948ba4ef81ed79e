-- What a host object answered is what a script's line of it gives.
use Rattle.std.proofs.Common.{◌≡◌, ◌≤◌, ℕ, Bool, true, false, refl, sym, ◌∙◌, List, length, if◌then◌else◌, arith}
use Rattle.std.specs.Prelude.{nat_le}
use Rattle.std.proofs.lemmas.Bool.{and_parts}
use Rattle.vm_types.specs.Fits.{out_fits}
use Rattle.vm_types.specs.declared.op.OutOp.{OutOp}
use Rattle.vm_types.specs.declared.op.OutOp.TheVariants as out
use Rattle.vm_types.specs.declared.port_look.PortLook.{PortLook}
use Rattle.vm_types.specs.declared.reply.Reply.{Reply}
use Rattle.vm_types.specs.declared.reply.Shown.{Shown}
use Rattle.script_text.specs.declared.item.HostReply.TheVariants as given
use Rattle.flat_guest.specs.Given.Given.{Host, Nothing}
use Rattle.flat_machine.specs.Given.{reply_given}
use Rattle.serve_host.specs.Events.{host_reply}

never : false ≡ true → ⊥
never is = cc

frame_again : (count : ℕ) (b : Bool) → b ≡ true → reply_given (if b then given.Frame count else given.Failed) ≡ Host (Reply.Frame count)
frame_again count true is = refl
frame_again count false is = absurd (never is)

short_again : (piece : List ℕ) (connection : ℕ) (b : Bool) → b ≡ true
    → (if b then Host (Reply.Received piece connection) else Nothing) ≡ Host (Reply.Received piece connection)
short_again piece connection true is = refl
short_again piece connection false is = absurd (never is)

-- only a link gives a frame, and its frame is short enough
frame_fits : (act : OutOp) (count : ℕ) → out_fits act (Reply.Frame count) ≡ true → nat_le count 1514 ≡ true
frame_fits out.Clock count fits = absurd (never fits)
frame_fits (out.DiskRead sector part) count fits = absurd (never fits)
frame_fits (out.DiskWrite sector part bytes) count fits = absurd (never fits)
frame_fits out.DiskFlush count fits = absurd (never fits)
frame_fits out.LinkTake count fits = (and_parts (nat_le 14 count) (nat_le count 1514) fits).1
frame_fits (out.LinkPart index len) count fits = absurd (never fits)
frame_fits (out.LinkSend piece) count fits = absurd (never fits)
frame_fits out.LinkEnd count fits = absurd (never fits)
frame_fits out.HostNext count fits = absurd (never fits)
frame_fits (out.HostDial port) count fits = absurd (never fits)
frame_fits (out.HostSend piece connection) count fits = absurd (never fits)
frame_fits (out.HostClose connection) count fits = absurd (never fits)
frame_fits out.DrawWord count fits = absurd (never fits)

-- no host object answers as the board, a port or memory does
record NoneOf (act : OutOp) : Type 0 where
  returned : (error value : ℕ) → out_fits act (Reply.Returned error value) ≡ false
  shown : (it : Shown) → out_fits act (Reply.Shown it) ≡ false
  port : (look : PortLook) → out_fits act (Reply.Port look) ≡ false
  full : out_fits act Reply.Full ≡ false
  fault : out_fits act Reply.AccessFault ≡ false

none_of : (act : OutOp) → NoneOf act
none_of out.Clock = record { returned = λ e v. refl; shown = λ s. refl; port = λ p. refl; full = refl; fault = refl }
none_of (out.DiskRead sector part) = record { returned = λ e v. refl; shown = λ s. refl; port = λ p. refl; full = refl; fault = refl }
none_of (out.DiskWrite sector part bytes) = record { returned = λ e v. refl; shown = λ s. refl; port = λ p. refl; full = refl; fault = refl }
none_of out.DiskFlush = record { returned = λ e v. refl; shown = λ s. refl; port = λ p. refl; full = refl; fault = refl }
none_of out.LinkTake = record { returned = λ e v. refl; shown = λ s. refl; port = λ p. refl; full = refl; fault = refl }
none_of (out.LinkPart index len) = record { returned = λ e v. refl; shown = λ s. refl; port = λ p. refl; full = refl; fault = refl }
none_of (out.LinkSend piece) = record { returned = λ e v. refl; shown = λ s. refl; port = λ p. refl; full = refl; fault = refl }
none_of out.LinkEnd = record { returned = λ e v. refl; shown = λ s. refl; port = λ p. refl; full = refl; fault = refl }
none_of out.HostNext = record { returned = λ e v. refl; shown = λ s. refl; port = λ p. refl; full = refl; fault = refl }
none_of (out.HostDial port) = record { returned = λ e v. refl; shown = λ s. refl; port = λ p. refl; full = refl; fault = refl }
none_of (out.HostSend piece connection) = record { returned = λ e v. refl; shown = λ s. refl; port = λ p. refl; full = refl; fault = refl }
none_of (out.HostClose connection) = record { returned = λ e v. refl; shown = λ s. refl; port = λ p. refl; full = refl; fault = refl }
none_of out.DrawWord = record { returned = λ e v. refl; shown = λ s. refl; port = λ p. refl; full = refl; fault = refl }

within : (count : ℕ) → count ≤ 64 → nat_le count 64 ≡ true
within count less = grind arith

wrong : {P : Type 0} (b : Bool) → b ≡ false → b ≡ true → P
wrong b unmet met = absurd (never (sym unmet ∙ met))

pub again : (act : OutOp) (reply : Reply) → out_fits act reply ≡ true
    → ((piece : List ℕ) (connection : ℕ) → reply ≡ Reply.Received piece connection → length piece ≤ 64)
    → reply_given (host_reply reply) ≡ Host reply
again act Reply.Done fits short = refl
again act (Reply.Bytes piece) fits short = refl
again act (Reply.Word value) fits short = refl
again act Reply.Failed fits short = refl
again act Reply.Nothing fits short = refl
again act (Reply.Opened connection) fits short = refl
again act (Reply.Ended connection) fits short = refl
again act (Reply.Dialled connection) fits short = refl
again act (Reply.Drawn word) fits short = refl
again act (Reply.Frame count) fits short = frame_again count (nat_le count 1514) (frame_fits act count fits)
again act (Reply.Received piece connection) fits short =
    short_again piece connection (nat_le (length piece) 64) (within (length piece) (short piece connection refl))
again act (Reply.Returned error value) fits short =
    wrong (out_fits act (Reply.Returned error value)) ((none_of act).returned error value) fits
again act (Reply.Shown shown) fits short = wrong (out_fits act (Reply.Shown shown)) ((none_of act).shown shown) fits
again act (Reply.Port port) fits short = wrong (out_fits act (Reply.Port port)) ((none_of act).port port) fits
again act Reply.Full fits short = wrong (out_fits act Reply.Full) (none_of act).full fits
again act Reply.AccessFault fits short = wrong (out_fits act Reply.AccessFault) (none_of act).fault fits
