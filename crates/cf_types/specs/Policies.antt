-- The policies of a driver, after driver_detach and the power hooks of autoconf(9) and pmf(9).
use Rattle.std.specs.Prelude.{false}
use Rattle.cf_types.specs.declared.machine.Policy.{Policy}

-- a driver that refuses nothing and puts nothing off
abbrev pub no_policy : Policy
no_policy = record { nodetach = false; norescan = false; nopower = false; failsuspend = false; defer = false; interrupts = false; finaliser = false }
