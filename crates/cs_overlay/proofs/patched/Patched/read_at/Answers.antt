use Rattle.std.proofs.Common.{◌-◌, min, refl, sym, ◌∙◌, arith}
use Rattle.std.specs.BTreeMap.{get}
use Rattle.std.specs.Ordering.{nat_cmp}
use Rattle.cs_overlay.specs.Files.{file_byte}
use Rattle.cs_overlay.specs.Patch.{lower_bytes}
use Rattle.cs_overlay.proofs.Patching.{read_range}
use Rattle.cs_overlay.proofs.Pieces.{all_read, is_shown}
use Rattle.cs_overlay.proofs.Ranges.{no_bytes, no_blocks, shown_alone, some_bytes}
use Rattle.cs_overlay.proofs.patched.Patched.read_at.Goals as goal

pub returns-then-n-eq0-clause-value : goal.returns-then-n-eq0-clause-value
returns-then-n-eq0-clause-value g c =
    c.new.ensures.items ∙ no_bytes (file_byte (lower_bytes (g.L.TreeRead.tree c.args.lower.now) c.args.number) c.args.self.now)
    c.args.offset c.args.count c.args.self.now.size c.min-n.result
    (omega (arith, c.min-n.ensures, c.saturating_sub.ensures)) c.if-n-eq0.true

pub returns-in_err-shown-clause-memory : goal.returns-in_err-shown-clause-memory
returns-in_err-shown-clause-memory g c =
    λ _. some_bytes (file_byte (lower_bytes (g.L.TreeRead.tree c.args.lower.now) c.args.number) c.args.self.now) c.args.offset c.args.count
    c.args.self.now.size c.min-n.result
    (omega (arith, c.min-n.ensures, c.saturating_sub.ensures)) c.if-n-eq0.false

pub returns-then-len-n-clause-value : goal.returns-then-len-n-clause-value
returns-then-len-n-clause-value g c =
    let low = lower_bytes (g.L.TreeRead.tree c.args.lower.now) c.args.number in
    let p = c.args.self.now in
    let n = c.min-n.result in
    shown_alone low p.kept (get nat_cmp p.blocks) c.args.offset n c.in_ok-shown.shown.items
    (no_blocks p.blocks.entries (c.is_empty.ensures.0 c.if-is_empty.true))
    (is_shown low p.kept c.args.offset n (min (p.kept - c.args.offset) n) c.in_ok-shown.shown.items refl c.in_ok-shown.ensures)
    (sym c.in_ok-shown.shown.ok.0 ∙ sym c.len.ensures ∙ c.if-len-n.true)
    ∙ read_range (file_byte low p) c.args.offset c.args.count p.size n (omega (arith, c.min-n.ensures, c.saturating_sub.ensures))

pub returns-in_err-bytes-clause-memory : goal.returns-in_err-bytes-clause-memory
returns-in_err-bytes-clause-memory g c =
    λ _. some_bytes (file_byte (lower_bytes (g.L.TreeRead.tree c.args.lower.now) c.args.number) c.args.self.now) c.args.offset c.args.count
    c.args.self.now.size c.min-n.result
    (omega (arith, c.min-n.ensures, c.saturating_sub.ensures)) c.if-n-eq0.false

pub returns-clause-value : goal.returns-clause-value
returns-clause-value g c =
    let low = lower_bytes (g.L.TreeRead.tree c.args.lower.now) c.args.number in
    let p = c.args.self.now in
    let n = c.min-n.result in
    c.in_ok-bytes.ensures ∙ all_read c.deref.result.now c.args.offset (get nat_cmp p.blocks) low p.kept p.size c.args.count n
    (is_shown low p.kept c.args.offset n (min (p.kept - c.args.offset) n) c.deref.result.now refl
    (c.deref.ensures.value ∙ c.in_ok-shown.ensures))
    (omega (arith, c.min-n.ensures, c.saturating_sub.ensures))
