-- Records and nodes of entries that are appended in parts.
use Rattle.std.proofs.Common.{◌≡◌, ◌+◌, List, [], ◌∷◌, ◌++◌, length, map, refl, sym, ap, ◌∙◌, append_assoc, length-append, arith, ℕ, suc, add-zero}
use Rattle.std.proofs.lemmas.List.{append-nil}
use Rattle.cs_tree_model.specs.Fresh.{fresh_record, with_numbers_from}
use Rattle.cs_tree_model.specs.Maps.Values.{map_entries}
use Rattle.cs_tree_model.specs.Tree.{Path}
use Rattle.cs_tree_model.specs.declared.record.Record.{Record}
use Rattle.cs_start.specs.Entries.{record_of, with_nodes, with_records}
use Rattle.cs_start.specs.Owned.{with_place, with_places}
use Rattle.cs_start.specs.declared.entry.StartEntry.{StartEntry}
use Rattle.cs_entries.specs.declared.node.Node.{Node}

one_record : (rs : List (Path × Record)) (e : Path × StartEntry) (es : List (Path × StartEntry))
    → with_records rs (e ∷ es) ≡ with_records (rs ++ (e.0, fresh_record (length rs) (record_of e.1)) ∷ []) es
one_record rs e es =
    let one = (e.0, fresh_record (length rs) (record_of e.1)) ∷ [] in
    let next : length rs + 1 ≡ length (rs ++ one) = omega (arith, length-append rs one) in
    sym (append_assoc rs one (with_numbers_from (length rs + 1) (map_entries record_of es)))
    ∙ ap (λ n. (rs ++ one) ++ with_numbers_from n (map_entries record_of es)) next

pub records-append : (rs : List (Path × Record)) (es fs : List (Path × StartEntry))
    → with_records (with_records rs es) fs ≡ with_records rs (es ++ fs)
records-append rs [] fs = ap (λ r. with_records r fs) (append-nil rs)
records-append rs (e ∷ es) fs =
    let next = rs ++ (e.0, fresh_record (length rs) (record_of e.1)) ∷ [] in
    ap (λ r. with_records r fs) (one_record rs e es) ∙ records-append next es fs ∙ sym (one_record rs e (es ++ fs))

nodes_append : (es fs : List (Path × StartEntry))
    → map (λ e. e.1.node) es ++ map (λ e. e.1.node) fs ≡ map (λ e. e.1.node) (es ++ fs)
nodes_append [] fs = refl
nodes_append (e ∷ es) fs = ap (λ ns. e.1.node ∷ ns) (nodes_append es fs)

pub nodes-append : (ns : List Node) (es fs : List (Path × StartEntry)) → with_nodes (with_nodes ns es) fs ≡ with_nodes ns (es ++ fs)
nodes-append ns es fs = append_assoc ns (map (λ e. e.1.node) es) (map (λ e. e.1.node) fs) ∙ ap (λ m. ns ++ m) (nodes_append es fs)

pub numbers_length : (n : ℕ) (es : List (Path × StartEntry)) → length (with_numbers_from n (map_entries record_of es)) ≡ length es
numbers_length n [] = refl
numbers_length n (e ∷ es) = ap suc (numbers_length (n + 1) es)

pub records-length : (rs : List (Path × Record)) (es : List (Path × StartEntry)) → length (with_records rs es) ≡ length rs + length es
records-length rs es =
    length-append rs (with_numbers_from (length rs) (map_entries record_of es)) ∙ ap (λ n. length rs + n) (numbers_length (length rs) es)

pub places-append : (ps : List ℕ) (k : ℕ) (es fs : List (Path × StartEntry))
    → with_places (with_places ps k es) (k + length es) fs ≡ with_places ps k (es ++ fs)
places-append ps k [] fs = ap (λ n. with_places ps n fs) (add-zero k)
places-append ps k (e ∷ es) fs =
    let next : k + suc (length es) ≡ (k + 1) + length es = omega arith in
    ap (λ n. with_places (with_places (with_place ps k e.1) (k + 1) es) n fs) next
    ∙ places-append (with_place ps k e.1) (k + 1) es fs

-- one part more
pub places-next : (ps qs : List ℕ) (rs ss : List (Path × Record)) (es fs : List (Path × StartEntry)) → ss ≡ with_records rs es
    → qs ≡ with_places ps (length rs) es → with_places qs (length ss) fs ≡ with_places ps (length rs) (es ++ fs)
places-next ps qs rs ss es fs records places =
    (λ i. with_places (places i) ((ap length records ∙ records-length rs es) i) fs) ∙ places-append ps (length rs) es fs
