-- The first words of acts.
use Rattle.std.specs.Prelude.{ℕ, List, codes}
use Rattle.dev_event.specs.declared.word.ActWord.{ActWord}
use Rattle.dev_event.specs.declared.word.ActWord.TheVariants as word
use Rattle.dev_event.specs.declared.word.Named.TheVariants as named
use Rattle.dev_event.specs.declared.word.Said.TheVariants as said

abbrev pub spelling_of : ActWord → List ℕ
spelling_of word.Found = codes "found"
spelling_of word.Scan = codes "scan"
spelling_of word.Interrupts = codes "interrupts"
spelling_of word.Final = codes "final"
spelling_of word.End = codes "end"
spelling_of word.Open = codes "open"
spelling_of word.Io = codes "io"
spelling_of word.Done = codes "done"
spelling_of word.List = codes "list"
spelling_of word.ListAll = codes "list:"
spelling_of word.Tree = codes "tree"
spelling_of word.TreeAll = codes "tree:"
spelling_of (word.Names named.Drop) = codes "drop"
spelling_of (word.Names named.Free) = codes "free"
spelling_of (word.Names named.Sleep) = codes "sleep"
spelling_of (word.Names named.Wake) = codes "wake"
spelling_of (word.Says said.Close) = codes "close"
spelling_of (word.Says said.Detach) = codes "detach"
spelling_of (word.Says said.Rescan) = codes "rescan"
spelling_of (word.Says said.Suspend) = codes "suspend"
spelling_of (word.Says said.Resume) = codes "resume"
spelling_of (word.Says said.ResumeTree) = codes "resumetree"
spelling_of (word.Says said.Power) = codes "power"
spelling_of (word.Says said.Plug) = codes "plug"
spelling_of (word.Says said.Unplug) = codes "unplug"
