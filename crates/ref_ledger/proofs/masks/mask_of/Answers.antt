use Rattle.std.proofs.Common.{sym}
use Rattle.ref_ledger.proofs.PlaceLaws.{mask_here, mask_none}
use Rattle.ref_ledger.proofs.masks.mask_of.Goals as goal

pub returns-in-Ok : goal.returns-in-Ok
returns-in-Ok c =
    sym (mask_here c.args.masks.now c.args.serial c.in-Ok.place (record { serial = 0; callers = 0 }) c.requires c.in-Ok.ensures.within (c.in-Ok.ensures.own (record { serial = 0; callers = 0 })))

pub returns-in-Err : goal.returns-in-Err
returns-in-Err c = sym (mask_none c.args.masks.now c.args.serial _ c.in-Err.ensures)
