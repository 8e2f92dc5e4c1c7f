use Rattle.app_input.proofs.plans.judge_plan.Goals as goal

pub read_plan-requires-clause-few_devices : goal.read_plan-requires-clause-few_devices
read_plan-requires-clause-few_devices c = c.requires.formed.graph.few_devices
