use Rattle.script_text.proofs.LineReads.{item_reads, item_writable}
use Rattle.script_text.proofs.LineWrites.{comment_writes, item_writes}
use Rattle.script_text.proofs.law.one_line.Goals as goal

pub returns-clause-reads : goal.returns-clause-reads
returns-clause-reads c = item_reads

pub returns-clause-writes : goal.returns-clause-writes
returns-clause-writes c = item_writes

pub returns-clause-writable : goal.returns-clause-writable
returns-clause-writable c = item_writable

pub returns-clause-comments : goal.returns-clause-comments
returns-clause-comments c = comment_writes
