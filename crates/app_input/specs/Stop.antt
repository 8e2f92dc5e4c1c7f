-- The status that a configuration gives which is not compiled.
use Rattle.cf_compile.specs.declared.stop.CompileStop.{CompileStop}
use Rattle.cf_compile.specs.declared.stop.CompileStop.TheVariants as stops
use Rattle.app_words.specs.declared.status.Status.{Status}
use Rattle.app_words.specs.declared.status.Status.TheVariants.{ConfigRefused, ReadFault, Memory}

-- the status that tells why a configuration was not compiled
abbrev pub status_of_stop : CompileStop → Status
status_of_stop (stops.Refused refusal) = ConfigRefused refusal.file refusal.line refusal.code
status_of_stop stops.ReadFault = ReadFault
status_of_stop stops.Memory = Memory
