use Rattle.plain_event.proofs.told.act_of.Goals as goal

pub returns-in-Drop-clause-act : goal.returns-in-Drop-clause-act
returns-in-Drop-clause-act c = c.device_act.ensures.act c.args.caller

pub returns-in-Done-clause-act : goal.returns-in-Done-clause-act
returns-in-Done-clause-act c = c.device_act-in-Done.ensures.act c.args.caller

pub returns-in-Free-clause-act : goal.returns-in-Free-clause-act
returns-in-Free-clause-act c = c.device_act-in-Free.ensures.act c.args.caller

pub returns-in-Sleep-clause-act : goal.returns-in-Sleep-clause-act
returns-in-Sleep-clause-act c = c.device_act-in-Sleep.ensures.act c.args.caller

pub returns-in-Wake-clause-act : goal.returns-in-Wake-clause-act
returns-in-Wake-clause-act c = c.device_act-in-Wake.ensures.act c.args.caller
