use Rattle.deed_event.proofs.event.other_act.Goals as goal

pub returns-in-Drop : goal.returns-in-Drop
returns-in-Drop c = c.device_act.ensures c.args.caller

pub returns-in-Done : goal.returns-in-Done
returns-in-Done c = c.device_act-in-Done.ensures c.args.caller

pub returns-in-Free : goal.returns-in-Free
returns-in-Free c = c.device_act-in-Free.ensures c.args.caller
