-- Lines that are written, and more of them.
use Rattle.std.proofs.Common.{◌≡◌, ℕ, Bool, ◌+◌, ◌-◌, ◌<◌, List, [], ◌++◌, length, map, take, get_or, Option, sym, ap, subst, ◌∙◌, arith}
use Rattle.std.proofs.KnownBytes.{Appends-trans}
use Rattle.std.proofs.lemmas.Grind.{flat_map-append}
use Rattle.std.proofs.lemmas.List.{flat_map_more, take_more}
use Rattle.std.proofs.lemmas.List.FromFn.{map-range_with_len_more}
use Rattle.std.specs.Io.KnownBytes.{Appends}
use Rattle.std.specs.List.{flat_map, range_with_len}
use Rattle.cs_sets.specs.Laws.Lists.{range_more}
use Rattle.cs_sets.specs.Orders.{needs_in}
use Rattle.cs_micro.specs.Micros.{Micros}
use Rattle.cs_micro.specs.declared.micro_op.MicroOp.{MicroOp}
use Rattle.cs_micro.specs.declared.sync_point.SyncPoint.{SyncPoint}
use Rattle.cs_picks.specs.Changes.{changed_files}
use Rattle.cs_picks.specs.Families.{prefix_sets, sets_without}
use Rattle.cs_picks.specs.Losses.{losses_of}
use Rattle.cs_every.specs.Texts.{pick_line, picks_text}

-- two texts that are one
pub written_more : (a b c : Option (List ℕ)) (x y z : List ℕ) → Appends a b x → Appends b c y → x ++ y ≡ z → Appends a c z
written_more a b c x y z p q e = subst (λ (v : List ℕ). Appends a c v) e (Appends-trans a b c x y p q)

pub lines_more : (f : ℕ → List ℕ) (n : ℕ)
    → picks_text (map f (range_with_len 0 n)) ++ pick_line (f n) ≡ picks_text (map f (range_with_len 0 (n + 1)))
lines_more f n =
    flat_map_more pick_line [] (map f (range_with_len 0 n)) (f n) ∙ ap (flat_map pick_line)
    (sym (map-range_with_len_more f 0 n n (omega arith)))

-- the sets of one more file
pub files_more : (f : ℕ → List (List ℕ)) (files : List ℕ) (i : ℕ) → i < length files
    → picks_text (flat_map f (take i files)) ++ picks_text (f (get_or files i 0)) ≡ picks_text (flat_map f (take (i + 1) files))
files_more f files i there =
    sym (flat_map-append pick_line (flat_map f (take i files)) (f (get_or files i 0)))
    ∙ ap (flat_map pick_line) (flat_map_more f [] (take i files) (get_or files i 0) ∙ ap (flat_map f) (sym (take_more files i 0 there)))

-- the sets of one more prefix
pub prefixes_more : (f : ℕ → List (List ℕ)) (n : ℕ)
    → picks_text (flat_map f (range_with_len 0 n)) ++ picks_text (f n) ≡ picks_text (flat_map f (range_with_len 0 (n + 1)))
prefixes_more f n =
    sym (flat_map-append pick_line (flat_map f (range_with_len 0 n)) (f n))
    ∙ ap (flat_map pick_line) (flat_map_more f [] (range_with_len 0 n) n ∙ ap (flat_map f) (sym (range_more n)))

-- the sets of a prefix, from what was found of it
pub same_prefix : (m : Micros) (order : List (List Bool)) (end : ℕ) (ops : List MicroOp) (syncs : List SyncPoint)
    (shorter losses : List (Option ℕ)) (files : List ℕ)
    → ops ≡ m.ops → syncs ≡ m.syncs → shorter ≡ losses_of ops syncs (end - 1) → losses ≡ losses_of ops syncs end → files ≡ changed_files ops
    → flat_map (sets_without (needs_in order) shorter losses) files ≡ prefix_sets m order end
same_prefix m order end ops syncs shorter losses files a b s l f =
    let of_micros =
    λ (last : ℕ). ap (λ (o : List MicroOp). losses_of o syncs last) a ∙ ap (λ (v : List SyncPoint). losses_of m.ops v last) b in
    ap (λ (v : List (Option ℕ)). flat_map (sets_without (needs_in order) v losses) files) (s ∙ of_micros (end - 1))
    ∙ ap (λ (v : List (Option ℕ)). flat_map (sets_without (needs_in order) (losses_of m.ops m.syncs (end - 1)) v) files) (l ∙ of_micros end)
    ∙ ap (flat_map (sets_without (needs_in order) (losses_of m.ops m.syncs (end - 1)) (losses_of m.ops m.syncs end)))
    (f ∙ ap changed_files a)
