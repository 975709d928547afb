-- What an operation leaves of permissions: three octal digits each.
use Rattle.std.proofs.Common.{◌≡◌, ◌⊎◌, ℕ, zero, suc, ◌+◌, ◌≤◌, ◌==◌, Bool, true, false, List, [], ◌∷◌, ◌++◌, length}
use Rattle.std.proofs.Common.{sym, subst, ⊎_elim}
use Rattle.std.proofs.lemmas.Option.{same_Some}
use Rattle.std.specs.Prelude.{if◌then◌else◌, slice_set}
use Rattle.cs_start.specs.declared.rights.Rights.{Rights}
use Rattle.cs_trace.specs.Attributes.{Attributes, attributes_after, rights_with}
use Rattle.cs_trace.specs.Operations.{FileSystem, IsLegal}
use Rattle.cs_trace.specs.declared.operation.Operation.{Operation}
use Rattle.cs_trace.specs.declared.operation.Operation.TheVariants as op
use Rattle.cs_trace.specs.declared.operation.Target.TheVariants as targets
use Rattle.cs_trace_lines.specs.declared.version.Version.{Version}
use Rattle.cs_trace_lines.specs.declared.version.Version.TheVariants.{First, Second, Third, Fourth}
use Rattle.cs_trace.specs.Attributes.{kept_in}
use Rattle.cs_trace.proofs.Sound.{AllOctal, AreOctal}
use Rattle.cs_trace.proofs.SoundOperations.{slice_get-push}

-- ---- permissions

pub pushed_octal : (rs : List Rights) (r : Rights) → AllOctal rs → r.permissions ≤ 511 → AllOctal (rs ++ r ∷ [])
pushed_octal rs r old octal n q at =
    ⊎_elim (old n q) (λ (new : (n ≡ length rs) × (q ≡ r)). subst (λ (w : Rights). w.permissions ≤ 511) (sym new.1) octal)
    (slice_get-push rs r n q at)

-- these rights in place of those at the number
set_octal : (rs : List Rights) (k : ℕ) (r : Rights) → AllOctal rs → r.permissions ≤ 511 → AllOctal (slice_set rs k r)
set_octal [] k r old octal n q at = old n q at
set_octal (x ∷ rs) zero r old octal zero q at = subst (λ (w : Rights). w.permissions ≤ 511) (same_Some r q at) octal
set_octal (x ∷ rs) zero r old octal (suc n) q at = old (suc n) q at
set_octal (x ∷ rs) (suc k) r old octal zero q at = old zero q at
set_octal (x ∷ rs) (suc k) r old octal (suc n) q at = set_octal rs k r (λ m w there. old (suc m) w there) octal n q at

with_octal : (next : Bool) (rs : List Rights) (k : ℕ) (r : Rights) → AllOctal rs → r.permissions ≤ 511
    → AllOctal (if next then rs ++ r ∷ [] else slice_set rs k r)
with_octal true rs k r old octal = pushed_octal rs r old octal
with_octal false rs k r old octal = set_octal rs k r old octal

pub directory_octal : (a : Attributes) (d : ℕ) (r : Rights) → AreOctal a → r.permissions ≤ 511
    → AllOctal (rights_with a.directories d r)
directory_octal a d r old octal = with_octal (d == length a.directories) a.directories d r old.directories octal

pub rights_after_op : (version : Version) (fs : FileSystem) (a : Attributes) (o : Operation) → AreOctal a → IsLegal version fs o
    → AreOctal (attributes_after a o)
rights_after_op version fs a (op.Creat e file rights) old legal =
    record { files = pushed_octal a.files rights old.files legal.fitting.1; directories = old.directories }
rights_after_op version fs a (op.Mkdir e directory rights) old legal =
    record { files = old.files; directories = directory_octal a directory rights old legal.fitting.1 }
rights_after_op version fs a (op.Symlink e file rights target) old legal =
    record { files = pushed_octal a.files rights old.files legal.fitting.2; directories = old.directories }
rights_after_op version fs a (op.Link e file) old legal = old
rights_after_op version fs a (op.Unlink e kind file) old legal = old
rights_after_op version fs a (op.Rmdir e directory) old legal = old
rights_after_op version fs a (op.Rename b c node replaced) old legal = old
rights_after_op version fs a (op.Write file size offset bytes) old legal = old
rights_after_op version fs a (op.Truncate file size to) old legal = old
rights_after_op version fs a (op.SetAttr (targets.File file) before after) old legal =
    record { files = set_octal a.files file after old.files legal.fitting.2; directories = old.directories }
rights_after_op version fs a (op.SetAttr (targets.Directory d path) before after) old legal =
    record { files = old.files; directories = directory_octal a d after old legal.fitting }
rights_after_op version fs a (op.Sync covered) old legal = old
rights_after_op version fs a op.Say old legal = old

pub kept_octal : (version : Version) (before after : Attributes) → AreOctal before → AreOctal after
    → AreOctal (kept_in version before after)
kept_octal First before after old new = old
kept_octal (Second profile) before after old new = new
kept_octal (Third profile block) before after old new = new
kept_octal (Fourth profile block) before after old new = new
