use Rattle.std.proofs.Common.{◌≡◌, ◌<◌, ℕ, List, length, refl, ap, sym, ◌∙◌, subst, arith}
use Rattle.std.proofs.lemmas.Option.{slice_get_read}
use Rattle.std.specs.List.{slice_get}
use Rattle.cs_tree_model.specs.Tree.{Path}
use Rattle.cs_tree_model.specs.declared.record.Record.{Record}
use Rattle.cs_start.specs.Starts.{start_records}
use Rattle.cs_start.proofs.Recorded.{Kept, legal_at, length-start, start-at}
use Rattle.cs_start.proofs.start_records.Start.entry.Goals as goal

inside : (d : Path) (es : List Kept) (rs : List (Path × Record)) (k : ℕ) → start_records d es ≡ rs → k < length rs → k < length es
inside d es rs k view low = subst (λ n. k < n) (ap length (sym view) ∙ length-start d es) low

pub index-requires : goal.index-requires
index-requires c =
    let low =
    inside c.self.inside.directory c.self.inside.entries.items c.args.self.now c.args.place c.self.view_is c.requires in
    omega (arith, low, c.self.inside.entries.ok)

pub returns-clause-value : goal.returns-clause-value
returns-clause-value c =
    let d = c.self.inside.directory in
    let es = c.self.inside.entries.items in
    let k = c.args.place in
    let low = inside d es c.args.self.now k c.self.view_is c.requires in
    ap (λ rs. slice_get rs k) (sym c.self.view_is)
    ∙ start-at d es k c.index.result.now (slice_get_read es (length es) k c.index.result.now refl low c.index.ensures)

pub returns-clause-legal : goal.returns-clause-legal
returns-clause-legal c =
    let d = c.self.inside.directory in
    let es = c.self.inside.entries.items in
    let k = c.args.place in
    let low = inside d es c.args.self.now k c.self.view_is c.requires in
    legal_at es k c.index.result.now c.self.invariant (slice_get_read es (length es) k c.index.result.now refl low c.index.ensures)
