use Rattle.guest_pages.specs.Pages.{unmarked}
use Rattle.guest_pages.proofs.Marking.{marked_by, marked_by_all}
use Rattle.guest_pages.proofs.law.marks_follow_acts.Goals as goal

pub returns-clause-one : goal.returns-clause-one
returns-clause-one c p actor op = marked_by p actor op

pub returns-clause-all : goal.returns-clause-all
returns-clause-all c p acts = marked_by_all (unmarked p) acts
