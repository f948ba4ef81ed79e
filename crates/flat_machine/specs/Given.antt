-- What a reply line gives an actor.
use Rattle.std.specs.Prelude.{nat_le, if◌then◌else◌, length}
use Rattle.vm_types.specs.declared.reply.Reply.{Reply}
use Rattle.flat_guest.specs.Given.{Given}
use Rattle.flat_guest.specs.Given.Given.{Host, Nothing}
use Rattle.script_text.specs.declared.item.HostReply.{HostReply}
use Rattle.script_text.specs.declared.item.HostReply.TheVariants as given

-- the reply that a line says, and nothing where it has more bytes than a reply can have
abbrev pub reply_given : HostReply → Given
reply_given given.Done = Host Reply.Done
reply_given given.Failed = Host Reply.Failed
reply_given given.Nothing = Host Reply.Nothing
reply_given (given.Now nanoseconds) = Host (Reply.Word nanoseconds)
reply_given (given.Part piece) = Host (Reply.Bytes piece)
reply_given (given.Frame length) = Host (Reply.Frame length)
reply_given (given.Opened connection) = Host (Reply.Opened connection)
reply_given (given.Received connection bytes) =
    if nat_le (length bytes) 64 then Host (Reply.Received bytes connection) else Nothing
reply_given (given.Ended connection) = Host (Reply.Ended connection)
reply_given (given.Dialled connection) = Host (Reply.Dialled connection)
reply_given (given.Word word) = Host (Reply.Drawn word)
