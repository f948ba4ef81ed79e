-- An entry of a table inside RAM has an address.
use Rattle.vq_split.proofs.Steps.{entry_fits}
use Rattle.vq_split.proofs.valid.is_stage.Goals as goal

pub entry_place-requires : goal.entry_place-requires
entry_place-requires c =
    entry_fits c.args.queue.now c.in-EntryRest.table c.in-EntryRest.at c.args.parts.now c.few_pages.ensures
    (c.is_entry-in-EntryRest.ensures.entry c.if-is_entry.true)
