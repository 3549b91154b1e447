use Rattle.dump.proofs.WindowLaws.{scan_lists, never_refused}
use Rattle.dump.proofs.window.window.Goals as goal

-- `window::window` meets its contract. Assumes nothing.
pub ranges-requires : goal.ranges-requires
ranges-requires g c =
    (c.requires.0, scan_lists c.args.src.now c.args.list.now _ c.in-Ok.count (rw c.in-Ok.is at c.scan.ensures))

pub returns-in-Ok : goal.returns-in-Ok
returns-in-Ok g c = rw c.decided_places.ensures at c.ranges-in-Ok.ensures

pub returns-in-Err : goal.returns-in-Err
returns-in-Err g c =
    absurd (never_refused c.args.src.now c.args.list.now _ c.in-Err.field-0 c.requires.1 c.requires.2 (rw c.in-Err.is at c.scan.ensures))
