-- A configuration together with its statements, by what reading it gave.
use Rattle.std.proofs.Common.{◌≡◌, ℕ, ◌<◌, Option, Some, None, List, [], All, length, refl, ap, sym, ◌∙◌, subst, get_or}
use Rattle.std.specs.Prelude.{IfSome, IsErrAnd, Result, Ok, Err, IfOk}
use Rattle.std.proofs.lemmas.List.{length-map}
use Rattle.cf_types.specs.Offers.{named_by}
use Rattle.cf_types.specs.declared.declared.Declared.{Declared}
use Rattle.cf_types.specs.declared.instance.Instance.{Instance}
use Rattle.cf_types.specs.declared.stmt.Expanded.{Expanded}
use Rattle.cf_types.specs.declared.stmt.Placed.{Placed}
use Rattle.cf_types.specs.declared.tables.Refusal.{Refusal}
use Rattle.attr_graph.specs.Graphs.{IsGraphOf}
use Rattle.attr_graph.specs.Reach.{Shape}
use Rattle.cf_declare.proofs.InstanceLaws.{surviving_sound}
use Rattle.config_rules.specs.Declared.{declared}
use Rattle.config_rules.specs.Fault.{fault_in, first_code, first_fault, stmts_of}
use Rattle.config_rules.specs.Form.{◌or◌}
use Rattle.config_rules.specs.Formed.{FormedTables}
use Rattle.config_rules.specs.Meaning.{surviving}
use Rattle.config_rules.specs.Reading.{Files, Reading, reading}
use Rattle.cf_expand.specs.Steps.{expanded}
use Rattle.cf_compile.specs.Known.{AreOrphans, FindsKnown, IsKnown, Knows}
use Rattle.cf_compile.specs.Meant.{reading_of}
use Rattle.cf_compile.specs.declared.known.Known.{Known}
use Rattle.cf_compile.specs.declared.stop.CompileStop.{CompileStop}
use Rattle.cf_compile.specs.declared.stop.CompileStop.TheVariants.{Refused, ReadFault, Memory}
use Rattle.cf_compile.proofs.CompileLaws.{fault_read, if_told, means_read}

no_first : (first last : Option Refusal) → first or last ≡ None → first ≡ None
no_first None last none = refl
no_first (Some x) last none = absurd cc

-- what was read without a fault has no code
pub no_code : (r : Reading) → fault_in r ≡ None → first_code r.files [] r.placed ≡ None
unfolding fault_in
no_code r none = no_first (first_code r.files [] r.placed) r.fault none

-- the devices of the surviving instances are declared
pub devices_declared : (files : List (List ℕ)) (placed : List Placed) (d : Declared) (insts : List Instance) → first_code files [] placed ≡ None → d ≡ declared (stmts_of placed)
    → insts ≡ surviving [] (stmts_of placed) → All (λ x. x.joined.device < length d.devices) insts
devices_declared files placed d insts none declares standing =
    let sound = surviving_sound files placed none in
    subst (λ (is : List Instance). All (λ x. x.joined.device < length d.devices) is) (sym standing)
    (λ k i p. subst (λ (e : Declared). (get_or (surviving [] (stmts_of placed)) k i).joined.device < length e.devices) (sym declares) (sound k i p).has_device)

-- and in the graph
pub devices_in_graph : (d : Declared) (graph : Shape) (insts : List Instance) → IsGraphOf d graph → All (λ x. x.joined.device < length d.devices) insts
    → All (λ x. x.joined.device < length graph.devices) insts
devices_in_graph d graph insts is known =
    let size : length graph.devices ≡ length d.devices = ap length is.devices ∙ length-map d.devices named_by in
    subst (λ (n : ℕ). All (λ x. x.joined.device < n) insts) (sym size) known

known_read : (files : Files) (name : List ℕ) (read : Expanded) (known : Known) → read ≡ expanded (reading files name) → FindsKnown (reading_of read) (Ok known) → IsKnown files name known
known_read files name read known is (none, meant, placed, named, orphans) = record {
  means = means_read files name read known.tables is (none, meant);
  placed = placed ∙ ap (λ (e : Expanded). e.placed) is;
  names = named ∙ ap (λ (e : Expanded). e.files) is;
  orphans = subst (λ (ps : List Placed). AreOrphans ps known.orphans) (sym placed) orphans;
}

-- what was found in what was read is how compiling ends
pub knows_read : (told : Option Files) (name : List ℕ) (before after : ℕ) (read : Expanded) (result : Result Known CompileStop)
    → IfSome told (λ files. read ≡ expanded (reading files name)) → after ≡ before → FindsKnown (reading_of read) result → Knows told name before after result
knows_read told name before after read (Ok known) is same found =
    (if_told told _ (λ files. IsKnown files name known) (λ files e. known_read files name read known e found) is, same)
knows_read told name before after read (Err (Refused refusal)) is same found =
    (if_told told _ (λ files. first_fault files name ≡ Some refusal) (λ files e. fault_read files name read refusal e found) is, same)
knows_read told name before after read (Err ReadFault) is same found = absurd found
knows_read told name before after read (Err Memory) is same found = same

-- the tables that are found are formed
pub known_formed : (r : Reading) (result : Result Known CompileStop) → FindsKnown r result → IfOk result (λ known. FormedTables known.tables)
known_formed r (Ok known) (none, meant, placed, named, orphans) = meant.formed
known_formed r (Err stop) found = tt
