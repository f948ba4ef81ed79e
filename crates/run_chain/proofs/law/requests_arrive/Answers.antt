use Rattle.run_chain.proofs.Asking.{boots, configures, creates, pauses, resumes, starts}
use Rattle.run_chain.proofs.law.requests_arrive.Goals as goal

pub returns-clause-boots : goal.returns-clause-boots
returns-clause-boots c = boots

pub returns-clause-configures : goal.returns-clause-configures
returns-clause-configures c = configures

pub returns-clause-starts : goal.returns-clause-starts
returns-clause-starts c = starts

pub returns-clause-pauses : goal.returns-clause-pauses
returns-clause-pauses c = pauses

pub returns-clause-resumes : goal.returns-clause-resumes
returns-clause-resumes c = resumes

pub returns-clause-creates : goal.returns-clause-creates
returns-clause-creates c = creates
