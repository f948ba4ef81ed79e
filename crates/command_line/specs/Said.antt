-- A command that was read, with its words as texts.
use Rattle.std.specs.Option.{option_map}
use Rattle.command_line.specs.Commands as words
use Rattle.command_line.specs.declared.reading.MonitorCommand.{MonitorCommand}
use Rattle.command_line.specs.declared.reading.MonitorCommand.TheVariants as command
use Rattle.command_line.specs.declared.reading.ServeWords.{ServeWords}

abbrev pub words_said : ServeWords → words.ServeWords
words_said it = record {
  socket = it.socket.now;
  id = it.id.now;
  trace = option_map (λ t. t.now) it.trace;
}

abbrev pub said : MonitorCommand → words.Command
said (command.Replay id) = words.Replay id.now
said (command.Serve it) = words.Serve (words_said it)
said (command.Generate number) = words.Generate number
said (command.Run number) = words.Run number
