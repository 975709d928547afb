-- The bytes of writes keep their places.
use Rattle.std.proofs.Common.{◌≡◌, ◌∙◌, ℕ, suc, ◌+◌, ◌<◌, ◌≤◌, ◌==◌, Bool, true, false, cond, List, [], ◌∷◌, ◌++◌, length, length-append}
use Rattle.std.proofs.Common.{length-drop, length-set, drop, get_or, map, set, take, refl, sym, ap, subst, arith}
use Rattle.std.proofs.lemmas.Bool.{eqb-false}
use Rattle.std.proofs.lemmas.Bool.Decides.{nat_tests}
use Rattle.std.proofs.lemmas.List.{append-nil, drop-append-le, get_or-map, get_or-set_other, get_or-set_same, length-map, map-set}
use Rattle.std.proofs.lemmas.List.{take-append-le, take_all}
use Rattle.std.proofs.Math.Seq.{drop-append_seam}
use Rattle.std.specs.Arc.{arc_value}
use Rattle.std.specs.List.{All}
use Rattle.std.specs.Prelude.{Vec}
use Rattle.std.specs.declared.alloc.Global.{Global}
use Rattle.cs_journal.specs.declared.entry.Entry.{Entry}
use Rattle.cs_journal.specs.declared.kept_call.KeptCall.{KeptCall}
use Rattle.cs_journal.specs.declared.kept_call.KeptCall.TheVariants as k
use Rattle.cs_journal.specs.declared.written.Piece.{Piece}
use Rattle.cs_journal.specs.Kept.{IsEntryIn, LiesIn, call_of, entry_in, write_call}
use Rattle.cs_journal.specs.Written.{IsWithin, Keeps, bytes_at, bytes_in}

-- ---- blocks that get more bytes

in_front : (xs more : List ℕ) (start len : ℕ) → start + len ≤ length xs → take len (drop start (xs ++ more)) ≡ take len (drop start xs)
in_front xs more start len within =
    ap (take len) (drop-append-le start xs more (omega (arith, within))) ∙ take-append-le len (drop start xs) more
    (omega (arith, within, length-drop start xs))

-- each old block is there, perhaps with more bytes after its own
grown : (old new : List (List ℕ)) (more : ℕ → List ℕ) → length old ≤ length new
    → ((n : ℕ) → n < length old → get_or new n [] ≡ get_or old n [] ++ more n) → Keeps old new
grown old new more many front = record {
  within = λ p w.
      let longer : length (get_or new p.block_index []) ≡ length (get_or old p.block_index []) + length (more p.block_index) =
      ap length (front p.block_index w.block) ∙ length-append (get_or old p.block_index []) (more p.block_index) in
      record { block = omega (arith, many, w.block); bytes = omega (arith, w.bytes, longer) };
  same = λ p w. ap (λ (bs : List ℕ). take p.len (drop p.start bs)) (front p.block_index w.block) ∙
      in_front (get_or old p.block_index []) (more p.block_index) p.start p.len w.bytes;
}

got_more : (old : List (List ℕ)) (i : ℕ) (more : List ℕ) (n : ℕ) (b : Bool) → i < length old → (n == i) ≡ b
    → get_or (set old i (get_or old i [] ++ more)) n [] ≡ get_or old n [] ++ cond b more []
got_more old i more n true within same =
    let e : n ≡ i = grind (arith, nat_tests) in
    subst (λ (m : ℕ). get_or (set old i (get_or old i [] ++ more)) m [] ≡ get_or old m [] ++ more) (sym e)
    (get_or-set_same old i (get_or old i [] ++ more) [] within)
got_more old i more n false within other =
    get_or-set_other old i n (get_or old i [] ++ more) [] (eqb-false n i other) ∙ sym (append-nil (get_or old n []))

keeps_more : (old : List (List ℕ)) (i : ℕ) (more : List ℕ) → i < length old → Keeps old (set old i (get_or old i [] ++ more))
keeps_more old i more within =
    grown old (set old i (get_or old i [] ++ more)) (λ n. cond (n == i) more []) (omega (arith, length-set old i (get_or old i [] ++ more)))
    (λ n inside. got_more old i more n (n == i) within refl)

-- ---- the same of blocks in memory

abbrev pub Block : Type 0
Block = Vec ℕ Global

module _ (blocks : List Block) (i : ℕ) (b b' : Block) (more : List ℕ) (within : i < length blocks)
    (is : b'.items ≡ (get_or blocks i b).items ++ more) where
  pub keeps_put : Keeps (bytes_in blocks) (bytes_in (set blocks i b'))
  keeps_put =
      let old : get_or (bytes_in blocks) i [] ≡ (get_or blocks i b).items = get_or-map (λ (v : Block). v.items) blocks i b [] within in
      let new : bytes_in (set blocks i b') ≡ set (bytes_in blocks) i (get_or (bytes_in blocks) i [] ++ more) =
      map-set (λ (v : Block). v.items) blocks i b' ∙ ap (set (bytes_in blocks) i) (is ∙ ap (λ (xs : List ℕ). xs ++ more) (sym old)) in
      subst (λ (bs : List (List ℕ)). Keeps (bytes_in blocks) bs) (sym new)
      (keeps_more (bytes_in blocks) i more (omega (arith, within, length-map blocks (λ (v : Block). v.items))))

  module _ (p : Piece) (block : p.block_index ≡ i) (start : p.start ≡ length (get_or blocks i b).items) (len : p.len ≡ length more) where
    got_put : get_or (bytes_in (set blocks i b')) p.block_index [] ≡ (get_or blocks i b).items ++ more
    got_put =
        ap (λ n. get_or (bytes_in (set blocks i b')) n []) block ∙ get_or-map (λ (v : Block). v.items) (set blocks i b') i b' []
        (omega (arith, within, length-set blocks i b')) ∙ ap (λ (v : Block). v.items) (get_or-set_same blocks i b' b' within) ∙ is

    pub within_put : IsWithin (bytes_in (set blocks i b')) p
    within_put =
        let long : length (get_or (bytes_in (set blocks i b')) p.block_index []) ≡ length (get_or blocks i b).items + length more =
        ap length got_put ∙ length-append (get_or blocks i b).items more in
        record {
          block = omega (arith, block, within, length-map (set blocks i b') (λ (v : Block). v.items), length-set blocks i b');
          bytes = omega (arith, start, len, long);
        }

    pub bytes_put : bytes_at (bytes_in (set blocks i b')) p ≡ more
    bytes_put =
        (λ j. take (len j) (drop (start j) (got_put j))) ∙ ap (take (length more)) (drop-append_seam (get_or blocks i b).items more) ∙
        take_all (length more) more (omega arith)

-- ---- entries

module _ (old new : List (List ℕ)) (keeps : Keeps old new) where
  kept_stays : (kept : KeptCall) → LiesIn old kept → call_of new kept ≡ call_of old kept
  kept_stays (k.Write piece head) lies = ap (write_call (arc_value head)) (keeps.same piece lies)
  kept_stays (k.Shared shared) lies = refl
  kept_stays (k.Close open_number user) lies = refl
  kept_stays (k.Remove number user) lies = refl
  kept_stays (k.RemoveOpen open_number number user) lies = refl
  kept_stays (k.Read count number offset) lies = refl
  kept_stays (k.Stat number) lies = refl

  pub entries_stay : (es : List Entry) → All (IsEntryIn old) es → map (entry_in new) es ≡ map (entry_in old) es
  entries_stay [] all = refl
  entries_stay (e ∷ es) all =
      let rest : map (entry_in new) es ≡ map (entry_in old) es = entries_stay es (λ n d within. all (suc n) d (omega (arith, within))) in
      λ i. record {
        pass = e.pass;
        moment = e.moment;
        call = kept_stays e.kept (all 0 e (omega arith)).within i;
        outcome = e.outcome;
      } ∷ rest i
