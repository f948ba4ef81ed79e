-- The lines of a script are small: a file's content and a host object's bytes are bytes, and numbers have 64 bits.
use Rattle.std.proofs.Common.{◌≡◌, ◌<◌, ◌^◌, ◌++◌, ℕ, suc, zero, Bool, true, false, refl, if◌then◌else◌, List, [], ◌∷◌, length, map, take, Option, Some, None, arith}
use Rattle.std.specs.Prelude.{nat_le}
use Rattle.std.specs.List.{All}
use Rattle.std.proofs.lemmas.Bool.{leb-true}
use Rattle.std.proofs.lemmas.List.Elements.{All-head, All-tail}
use Rattle.vm_types.specs.declared.reply.Reply.{Reply}
use Rattle.file_format.specs.Format.{IsBytes}
use Rattle.flat_guest.specs.Given.Given.{Host, Nothing}
use Rattle.flat_guest.specs.Narrow.{IsSmallGiven}
use Rattle.script_words.specs.Lines.{lines_of}
use Rattle.script_words.specs.Words.{Lacks}
use Rattle.script_words.proofs.WholeText.{clean_of}
use Rattle.script_text.specs.declared.item.HostReply.{HostReply}
use Rattle.script_text.specs.declared.item.HostReply.TheVariants as given
use Rattle.script_text.specs.declared.item.Item.{Item}
use Rattle.script_text.specs.declared.item.Item.TheVariants as item
use Rattle.script_text.specs.Items.{item_of}
use Rattle.script_text.specs.Lines.{judged}
use Rattle.script_text.specs.Written.{AreBytes, HasAnswerForm, HasForm}
use Rattle.script_text.proofs.LineReads.{item_writable}
use Rattle.flat_machine.specs.Given.{reply_given}
use Rattle.flat_machine.specs.Replay.{judged_script, longest_script}
use Rattle.flat_machine.specs.Widths.{IsSmallItem}
use Rattle.flat_machine.proofs.SomeReplay.{AreFit}

-- past the end of bytes there is 0
bytes_of : (xs : List ℕ) → AreBytes xs → IsBytes xs
bytes_of [] all i = omega arith
bytes_of (x ∷ xs) all zero = All-head (λ (b : ℕ). b < 256) x xs all
bytes_of (x ∷ xs) all (suc i) = bytes_of xs (All-tail (λ (b : ℕ). b < 256) x xs all) i

received_small : (few : Bool) (connection : ℕ) (bytes : List ℕ) → nat_le (length bytes) 64 ≡ few → connection < 2 ^ 32 → AreBytes bytes
    → IsSmallGiven (if few then Host (Reply.Received bytes connection) else Nothing)
received_small true connection bytes is low all = (leb-true _ _ is, all, low)
received_small false connection bytes is low all = tt

reply_small : (reply : HostReply) → HasAnswerForm reply → IsSmallGiven (reply_given reply)
reply_small given.Done form = tt
reply_small given.Failed form = tt
reply_small given.Nothing form = tt
reply_small (given.Now nanoseconds) form = form
reply_small (given.Part piece) form = form.1
reply_small (given.Frame len) form = tt
reply_small (given.Opened connection) form = form
reply_small (given.Received connection bytes) form =
    received_small (nat_le (length bytes) 64) connection bytes refl form.0 form.1
reply_small (given.Ended connection) form = tt
reply_small (given.Dialled connection) form = form
reply_small (given.Word word) form = form

item_small : (it : Item) → HasForm it → IsSmallItem it
item_small item.Nothing form = tt
item_small (item.File name content) form = bytes_of content form.2
item_small (item.Lineage lineage) form = form
item_small item.Connect form = tt
item_small (item.Bytes bytes) form = tt
item_small (item.Api method path body) form = tt
item_small (item.Step actor count) form = tt
item_small (item.Reply actor reply) form = reply_small reply form.1
item_small item.Console form = tt
item_small (item.Register hart number) form = tt
item_small (item.Memory at len) form = tt

line_small : (line : List ℕ) (o : Option Item) (others : List (Option Item)) → item_of line ≡ o → Lacks 10 line → AreFit IsSmallItem others
    → AreFit IsSmallItem (o ∷ others)
line_small line None others is lacks small = small
line_small line (Some it) others is lacks small = (item_small it (item_writable line it lacks is).form, small)

lines_small : (lines : List (List ℕ)) → All (Lacks 10) lines → AreFit IsSmallItem (map item_of lines)
lines_small [] clean = tt
lines_small (line ∷ lines) clean =
    line_small line (item_of line) (map item_of lines) refl (All-head (Lacks 10) line lines clean)
    (lines_small lines (All-tail (Lacks 10) line lines clean))

judged_small : (script : List ℕ) → AreFit IsSmallItem (judged script)
judged_small script = lines_small (lines_of script) (clean_of script)

with_bad : (judges : List (Option Item)) → AreFit IsSmallItem judges → AreFit IsSmallItem (judges ++ None ∷ [])
with_bad [] fit = tt
with_bad (None ∷ judges) fit = with_bad judges fit
with_bad (Some it ∷ judges) fit = (fit.0, with_bad judges fit.1)

by_length : (short : Bool) (script : List ℕ)
    → AreFit IsSmallItem (if short then judged script else judged (take longest_script script) ++ None ∷ [])
by_length true script = judged_small script
by_length false script = with_bad (judged (take longest_script script)) (judged_small (take longest_script script))

pub script_small : (script : List ℕ) → AreFit IsSmallItem (judged_script script)
script_small script = by_length (nat_le (length script) longest_script) script
