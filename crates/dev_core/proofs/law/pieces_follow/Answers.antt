-- Each is a lemma on parts.
use Rattle.dev_core.proofs.Bytes as bytes
use Rattle.dev_core.proofs.law.pieces_follow.Goals as goal

pub returns-clause-piece : goal.returns-clause-piece
returns-clause-piece c = bytes.piece

pub returns-clause-rest : goal.returns-clause-rest
returns-clause-rest c = bytes.rest

pub returns-clause-end : goal.returns-clause-end
returns-clause-end c = bytes.end

pub returns-clause-most : goal.returns-clause-most
returns-clause-most c = bytes.most

pub returns-clause-page : goal.returns-clause-page
returns-clause-page c = bytes.page
