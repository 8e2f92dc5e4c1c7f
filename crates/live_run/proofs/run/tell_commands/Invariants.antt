use Rattle.std.proofs.Common.{◌≡◌, ◌≤◌, ◌+◌, ◌*◌, ◌++◌, drop}
use Rattle.live_rules.specs.Live.{after}
use Rattle.live_run.specs.Told.{commands_texts}
use Rattle.live_run.proofs.run.tell_commands.Given as goal

-- what was told so far, and what comes of the commands that are left
abbrev pub invariant-loop-command : goal.invariant-loop-command
invariant-loop-command l = record {
  site : l.live.site ≡ l.initial.live.site;
  next : l.live.world.next ≤ l.initial.live.world.next + l.command-index * 1024;
  lines : l.out ++ commands_texts l.initial.live.site l.live.world (drop l.command-index l.commands)
      ≡ l.initial.out ++ commands_texts l.initial.live.site l.initial.live.world l.commands;
  world : after l.initial.live.site l.live.world (drop l.command-index l.commands) ≡ after l.initial.live.site l.initial.live.world l.commands;
}
