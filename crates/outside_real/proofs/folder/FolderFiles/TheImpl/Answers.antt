use Rattle.outside_real.proofs.Untold.{untold_any, untold_ok, untold_err}
use Rattle.outside_real.proofs.folder.FolderFiles.TheImpl.Goals as goal

pub size-tells : goal.size-tells
size-tells g x c = record { size = untold_ok _ _; same = untold_any; called = search }

pub read_at-tells : goal.read_at-tells
read_at-tells g x c = record { bytes = untold_ok _ _; same = untold_any; called = search }

pub write_at-tells : goal.write_at-tells
write_at-tells g x c = record { written = untold_ok _ _; begun = untold_err _ _; called = search }

pub sync-tells : goal.sync-tells
sync-tells g x c = record { synced = untold_ok _ _; same = untold_err _ _; called = search }

pub make-tells : goal.make-tells
make-tells g x c = record { made = untold_ok _ _; begun = untold_err _ _; called = search }
