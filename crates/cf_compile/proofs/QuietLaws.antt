-- A statement that is not judged has no code, declares nothing and is no instance.
use Rattle.std.proofs.Common.{◌≡◌, ℕ, Bool, true, false, cond, Option, Some, None, List, [], ◌++◌, refl, ap, sym, ◌∙◌, append-nil}
use Rattle.std.specs.Option.{option_to_list}
use Rattle.cf_types.specs.declared.instance.Instance.{Instance}
use Rattle.cf_types.specs.declared.stmt.Stmt.{Stmt}
use Rattle.cf_types.specs.declared.stmt.Stmt.TheVariants as stmt
use Rattle.cf_declare.specs.Declare.{declare}
use Rattle.config_rules.specs.Declared.{Declared}
use Rattle.config_rules.specs.Fault.{code_of}
use Rattle.cf_compile.specs.Judged.{instance_at, is_judged}

pub quiet_code : (d : Declared) (n : ℕ) (s : Stmt) → is_judged s ≡ false → None ≡ code_of d n s
quiet_code d n (stmt.Define name locs needs) h = absurd (cc)
quiet_code d n (stmt.Class name) h = absurd (cc)
quiet_code d n (stmt.DefPseudo name locs needs) h = absurd (cc)
quiet_code d n (stmt.Device name locs needs) h = absurd (cc)
quiet_code d n (stmt.Attach device places name needs) h = absurd (cc)
quiet_code d n (stmt.Inst base mark at pairs flags) h = absurd (cc)
quiet_code d n (stmt.PseudoDevice name count) h = absurd (cc)
quiet_code d n s h = refl

nothing_more : (d : Declared) → d ≡ record { attrs = d.attrs ++ []; devices = d.devices ++ []; attaches = d.attaches ++ [] }
nothing_more d =
    let attrs = sym (append-nil d.attrs) in
    let devices = sym (append-nil d.devices) in
    let attaches = sym (append-nil d.attaches) in
    λ i. record { attrs = attrs i; devices = devices i; attaches = attaches i }

pub quiet_declared : (d : Declared) (s : Stmt) → is_judged s ≡ false → d ≡ declare d s
quiet_declared d (stmt.Define name locs needs) h = absurd (cc)
quiet_declared d (stmt.Class name) h = absurd (cc)
quiet_declared d (stmt.DefPseudo name locs needs) h = absurd (cc)
quiet_declared d (stmt.Device name locs needs) h = absurd (cc)
quiet_declared d (stmt.Attach device places name needs) h = absurd (cc)
quiet_declared d (stmt.Inst base mark at pairs flags) h = absurd (cc)
quiet_declared d (stmt.PseudoDevice name count) h = absurd (cc)
quiet_declared d s h = nothing_more d

quiet_instance : (d : Declared) (place : ℕ) (s : Stmt) → is_judged s ≡ false → instance_at d place s ≡ None
quiet_instance d place (stmt.Inst base mark at pairs flags) h = absurd (cc)
quiet_instance d place s h = refl

pub quiet_kept : (d : Declared) (place : ℕ) (s : Stmt) (keep : Bool) (instances : List Instance) → is_judged s ≡ false
    → instances ≡ instances ++ cond keep (option_to_list (instance_at d place s)) []
quiet_kept d place s keep instances h =
    by keep ∙ ap (λ (o : Option Instance). instances ++ cond keep (option_to_list o) []) (sym (quiet_instance d place s h))
  where
    by : (b : Bool) → instances ≡ instances ++ cond b (option_to_list None) []
    by true = sym (append-nil instances)
    by false = sym (append-nil instances)
