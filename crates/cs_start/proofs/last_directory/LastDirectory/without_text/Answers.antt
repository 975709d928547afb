use Rattle.std.proofs.Common.{◌≡◌, [], length, sym, ap, subst, arith, rules}
use Rattle.std.proofs.lemmas.List.{nil_from_length}
use Rattle.std.specs.String.{string_bytes}
use Rattle.cs_start.specs.Names.{IsFront}
use Rattle.cs_start.proofs.Spelling.{front_of_root}
use Rattle.cs_start.proofs.last_directory.LastDirectory.without_text.Goals as goal

pub invariant_of-result : goal.invariant_of-result
invariant_of-result c =
    let root : c.args.path ≡ [] = nil_from_length c.args.path (search rules) in
    let front : IsFront (string_bytes c.new.result) c.args.path =
    subst (λ p. IsFront (string_bytes c.new.result) p) (sym root) (subst (λ t. IsFront t []) (sym c.new.ensures.bytes) front_of_root) in
    (front, sym (ap length root), omega arith)
