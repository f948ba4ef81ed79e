use Rattle.load_run.proofs.running.words_at_end.Goals as goal

pub returns-clause-shows : goal.returns-clause-shows
returns-clause-shows g c =
    let done = c.in_ok-monitor.ensures.done in
    let shown = c.in_ok-words.ensures.shows (c.in_ok-monitor.ensures.lasts.still c.requires.tells) done.0 done.2 in
    record { last = done.0; done = done.1; shows = shown.0; saved = shown.1.files.saved_is }
