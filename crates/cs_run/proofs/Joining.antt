-- The places among all opens of those that are kept in blocks.
use Rattle.std.proofs.Common.{◌≡◌, ◌≢◌, ◌∙◌, ℕ, zero, suc, ◌+◌, ◌-◌, ◌<◌, ◌≤◌, ◌==◌, Bool, true, false, List, [], ◌∷◌, ◌++◌, length, get_or}
use Rattle.std.proofs.Common.{take, drop, set, Some, None, refl, sym, ap, arith, append_assoc, length-append}
use Rattle.std.proofs.Math.Seq.{take-suc}
use Rattle.std.proofs.lemmas.Bool.Decides.{nat_tests}
use Rattle.std.proofs.lemmas.List.{append-nil, get_or_default, length-set, take-append-drop, take-take, take_all}
use Rattle.std.proofs.lemmas.List.Folds.{list_any-append}
use Rattle.std.proofs.lemmas.List.Quantifiers.{all_pairs_push, all_pairs_remove}
use Rattle.std.proofs.lemmas.List.Concat.{flat_map-append, get_or-flat_map}
use Rattle.std.proofs.lemmas.Grind.{get_or-set_at}
use Rattle.std.proofs.lemmas.List.Edits.{length-remove, remove-append_left, remove-append_right}
use Rattle.std.proofs.lemmas.Option.{slice_get-get_or, slice_get_read}
use Rattle.std.specs.List.{All, position, remove}
use Rattle.std.specs.List.Sorted.{IsPartitionedBy}
use Rattle.std.specs.Option.{option_map_or}
use Rattle.std.specs.Prelude.{nat_lt, slice_get}
use Rattle.cs_permit.specs.Opens.{is_open as is_on}
use Rattle.cs_permit.specs.declared.call.OpenFile.{OpenFile}
use Rattle.cs_run.specs.Blocks.{AreFilled, Block, InBlocks, HasOpen, count_before, ends_below, all_opens, last_room}
use Rattle.cs_run.proofs.Ascending.{of_another, own_open, unnumbered}
use Rattle.cs_run.specs.Opens.{AreBelow, IsAscending, is_open}

-- one block more
before_next : (blocks : List Block) (i : ℕ) (b : Block) → i < length blocks
    → count_before blocks (suc i) ≡ count_before blocks i + length (get_or blocks i b).items
before_next blocks i b within =
    rw (take-suc blocks i b within, flat_map-append (λ (x : Block). x.items) (take i blocks), append-nil (get_or blocks i b).items)
    (length-append (all_opens (take i blocks)) _)

-- the blocks after the first ones have opens after theirs
before_rises : (blocks : List Block) (i j : ℕ) → i ≤ j → count_before blocks i ≤ count_before blocks j
before_rises blocks i j le =
    let parts = ap (λ xs. length (all_opens xs)) (sym (take-append-drop i (take j blocks)))
    ∙ ap length (flat_map-append (λ (x : Block). x.items) (take i (take j blocks)) (drop i (take j blocks))) ∙ length-append
    (all_opens (take i (take j blocks))) _ in
    let same = ap (λ xs. length (all_opens xs)) (take-take i j blocks le) in
    omega (arith, parts, same)

before_all : (blocks : List Block) (i : ℕ) → length blocks ≤ i → count_before blocks i ≡ length (all_opens blocks)
before_all blocks i le = ap (λ xs. length (all_opens xs)) (take_all i blocks le)

some_last : (n : ℕ) (xs : List OpenFile) → option_map_or (λ o. nat_lt o.number n) (slice_get xs (length xs - 1)) false ≡ true
    → 0 < length xs
some_last n [] e = absurd cc
some_last n (x ∷ xs) e = omega arith

module _ (n : ℕ) (b : Block) where
  -- its last open is at the place before its end
  last_test : (d : OpenFile) → 0 < length b.items → ends_below n b ≡ nat_lt (get_or b.items (length b.items - 1) d).number n
  last_test d some = rw (slice_get-get_or b.items (length b.items - 1) d (omega arith)) refl

  pub ends_some : ends_below n b ≡ true → 0 < length b.items
  ends_some e = some_last n b.items e

  pub ends_less : ends_below n b ≡ true → (d : OpenFile) → (get_or b.items (length b.items - 1) d).number < n
  ends_less e d =
      let test : nat_lt (get_or b.items (length b.items - 1) d).number n ≡ true = sym (last_test d (ends_some e)) ∙ e in
      grind (arith, nat_tests)

  pub ends_not : ends_below n b ≡ false → 0 < length b.items → (d : OpenFile) → n ≤ (get_or b.items (length b.items - 1) d).number
  ends_not e some d =
      let test : nat_lt (get_or b.items (length b.items - 1) d).number n ≡ false = sym (last_test d some) ∙ e in
      grind (arith, nat_tests)

  pub ends_from : 0 < length b.items → (d : OpenFile) → (get_or b.items (length b.items - 1) d).number < n → ends_below n b ≡ true
  ends_from some d less =
      let test : nat_lt (get_or b.items (length b.items - 1) d).number n ≡ true = grind (arith, nat_tests) in
      last_test d some ∙ test

first_of : (opens : List OpenFile) → 0 < length opens → OpenFile
first_of [] some = absurd (omega arith)
first_of (x ∷ opens) some = x

-- opens up to one whose number lies below n
upto_last : (opens : List OpenFile) → IsAscending opens → (q last n : ℕ) (d : OpenFile) → q ≤ last → last < length opens
    → (get_or opens last d).number < n → (get_or opens q d).number < n
upto_last opens ascending q last n d le within less =
    grind (arith, ascending q last d, λ (same : q ≡ last). ap (λ k. (get_or opens k d).number) same)

module _ (blocks : List Block) where
  -- the place among all of the open at a place of a block
  pub at_joined : (i j : ℕ) (b : Block) (d : OpenFile) → i < length blocks → j < length (get_or blocks i b).items
      → get_or (all_opens blocks) (count_before blocks i + j) d ≡ get_or (get_or blocks i b).items j d
  at_joined i j b d within inside = get_or-flat_map (λ x. x.items) blocks i j b d within inside

  pub in_joined : (i j : ℕ) (b : Block) → i < length blocks → j < length (get_or blocks i b).items
      → count_before blocks i + j < length (all_opens blocks)
  in_joined i j b within inside =
      let next : count_before blocks (suc i) ≡ count_before blocks i + length (get_or blocks i b).items = before_next blocks i b within in
      let upto : count_before blocks (suc i) ≤ count_before blocks (length blocks) =
      before_rises blocks (suc i) (length blocks) (omega arith) in
      let all : count_before blocks (length blocks) ≡ length (all_opens blocks) = before_all blocks (length blocks) (omega arith) in
      omega arith

  module _ (ascending : IsAscending (all_opens blocks)) where
    pub ascending_block : (i : ℕ) (b : Block) → i < length blocks → IsAscending (get_or blocks i b).items
    ascending_block i b within j k d less inside =
        rw (sym (at_joined i j b d within (omega arith)), sym (at_joined i k b d within inside))
        (ascending (count_before blocks i + j) (count_before blocks i + k) d (omega arith) (in_joined i k b within inside))

    module _ (filled : AreFilled blocks) (n : ℕ) where
      -- blocks whose numbers all lie below one come first
      pub parted : IsPartitionedBy (ends_below n) blocks
      parted i j b le within below = by (i == j) refl
        where
          by : (same : Bool) → (i == j) ≡ same → ends_below n (get_or blocks i b) ≡ true
          by true same = let e : i ≡ j = grind (arith, nat_tests) in rw e below
          by false other =
              let apart : i < j = grind (arith, nat_tests) in
              let own = get_or blocks i b in
              let later = get_or blocks j b in
              let some : 0 < length own.items = filled i b (omega arith) in
              let d = first_of own.items some in
              let full : 0 < length later.items = ends_some n later below in
              let less : (get_or later.items (length later.items - 1) d).number < n = ends_less n later below d in
              let next : count_before blocks (suc i) ≡ count_before blocks i + length own.items = before_next blocks i b (omega arith) in
              let rise : count_before blocks (suc i) ≤ count_before blocks j = before_rises blocks (suc i) j (omega arith) in
              let last : get_or (all_opens blocks) (count_before blocks i + (length own.items - 1)) d
              ≡ get_or own.items (length own.items - 1) d = at_joined i (length own.items - 1) b d (omega arith) (omega arith) in
              let end : get_or (all_opens blocks) (count_before blocks j + (length later.items - 1)) d
              ≡ get_or later.items (length later.items - 1) d = at_joined j (length later.items - 1) b d within (omega arith) in
              let inside : count_before blocks j + (length later.items - 1) < length (all_opens blocks) =
              in_joined j (length later.items - 1) b within (omega arith) in
              let below : (get_or (all_opens blocks) (count_before blocks j + (length later.items - 1)) d).number < n = rw end less in
              let own_below : (get_or (all_opens blocks) (count_before blocks i + (length own.items - 1)) d).number < n =
              upto_last (all_opens blocks) ascending (count_before blocks i + (length own.items - 1))
              (count_before blocks j + (length later.items - 1)) n d (omega arith) inside below in
              ends_from n own some d (rw (sym last) own_below)

      -- all opens before a block that follows such a one
      pub left : (i : ℕ) (b : Block) → i ≤ length blocks → ((k : ℕ) → k < i → ends_below n (get_or blocks k b) ≡ true)
          → (q : ℕ) (d : OpenFile) → q < count_before blocks i → (get_or (all_opens blocks) q d).number < n
      left zero b le parted q d within = absurd (omega arith)
      left (suc i) b le parted q d within =
          let own = get_or blocks i b in
          let test : ends_below n own ≡ true = parted i (omega arith) in
          let some : 0 < length own.items = ends_some n own test in
          let less : (get_or own.items (length own.items - 1) d).number < n = ends_less n own test d in
          let next : count_before blocks (suc i) ≡ count_before blocks i + length own.items = before_next blocks i b (omega arith) in
          let last : get_or (all_opens blocks) (count_before blocks i + (length own.items - 1)) d
          ≡ get_or own.items (length own.items - 1) d = at_joined i (length own.items - 1) b d (omega arith) (omega arith) in
          let inside : count_before blocks i + (length own.items - 1) < length (all_opens blocks) =
          in_joined i (length own.items - 1) b (omega arith) (omega arith) in
          let upto : (get_or (all_opens blocks) (count_before blocks i + (length own.items - 1)) d).number < n = rw last less in
          upto_last (all_opens blocks) ascending q (count_before blocks i + (length own.items - 1)) n d (omega arith) inside upto

      -- all opens after a block that doesn't
      pub right : (i : ℕ) (b : Block) → i < length blocks → ends_below n (get_or blocks i b) ≡ false → (q : ℕ) (d : OpenFile)
          → count_before blocks (suc i) ≤ q → q < length (all_opens blocks) → n < (get_or (all_opens blocks) q d).number
      right i b le fails q d after within =
          let own = get_or blocks i b in
          let next : count_before blocks (suc i) ≡ count_before blocks i + length own.items = before_next blocks i b le in
          let some : 0 < length own.items = grind (arith, filled i b, before_all blocks (suc i)) in
          let more : n ≤ (get_or own.items (length own.items - 1) d).number = ends_not n own fails some d in
          let last : get_or (all_opens blocks) (count_before blocks i + (length own.items - 1)) d
          ≡ get_or own.items (length own.items - 1) d = at_joined i (length own.items - 1) b d le (omega arith) in
          let from : n ≤ (get_or (all_opens blocks) (count_before blocks i + (length own.items - 1)) d).number = rw last more in
          let later : (get_or (all_opens blocks) (count_before blocks i + (length own.items - 1)) d).number <
          (get_or (all_opens blocks) q d).number =
          ascending (count_before blocks i + (length own.items - 1)) q d (omega arith) within in
          omega arith

      -- if no open before the block, in it, or after it has the number, none has
      missing : (i : ℕ) (b : Block) → i < length blocks → ((k : ℕ) → k < i → ends_below n (get_or blocks k b) ≡ true)
          → ends_below n (get_or blocks i b) ≡ false → All (λ o. o.number ≢ n) (get_or blocks i b).items
          → All (λ o. o.number ≢ n) (all_opens blocks)
      missing i b within lower fails lacks q d inside same =
          let own = get_or blocks i b in
          let next : count_before blocks (suc i) ≡ count_before blocks i + length own.items = before_next blocks i b within in
          let low : count_before blocks i ≤ q = grind (arith, left i b (omega arith) lower q d) in
          let high : q < count_before blocks (suc i) =
          grind (arith, λ (after : count_before blocks (suc i) ≤ q). right i b within fails q d after inside) in
          let at : get_or (all_opens blocks) (count_before blocks i + (q - count_before blocks i)) d
          ≡ get_or own.items (q - count_before blocks i) d = at_joined i (q - count_before blocks i) b d within (omega arith) in
          let place : count_before blocks i + (q - count_before blocks i) ≡ q = omega arith in
          lacks (q - count_before blocks i) d (omega arith)
          (sym (ap (λ o. o.number) at) ∙ ap (λ k. (get_or (all_opens blocks) k d).number) place ∙ same)

      -- if all blocks end below it, none has
      past_all : (b : Block) → ((k : ℕ) → k < length blocks → ends_below n (get_or blocks k b) ≡ true)
          → All (λ o. o.number ≢ n) (all_opens blocks)
      past_all b lower q d inside same =
          let all : count_before blocks (length blocks) ≡ length (all_opens blocks) = before_all blocks (length blocks) (omega arith) in
          let less : (get_or (all_opens blocks) q d).number < n = left (length blocks) b (omega arith) lower q d (omega arith) in
          omega arith

      module _ (pass i : ℕ) (b : Block) (within : i < length blocks) (is : b ≡ get_or blocks i b) (opens : List OpenFile)
          (own : opens ≡ b.items) where
        items_of : opens ≡ (get_or blocks i b).items
        items_of = own ∙ ap (λ x. x.items) is

        -- the numbers of the block ascend
        pub ascending_own : IsAscending opens
        ascending_own = rw items_of (ascending_block i b within)

        -- the only block that can have the number doesn't
        pub not_there : ((k : ℕ) (d : Block) → k < i → ends_below n (get_or blocks k d) ≡ true)
            → ((d : Block) → i < length blocks → ends_below n (get_or blocks i d) ≡ false) → All (λ o. o.number ≢ n) opens
            → position (is_open n pass) (all_opens blocks) ≡ None
        not_there lower fails lacks =
            unnumbered (all_opens blocks) n pass (missing i b within (λ k. lower k b) (fails b within) (rw (sym items_of) lacks))

        module _ (at : ℕ) (inside : at < length opens) (has : (d : OpenFile) → (get_or opens at d).number ≡ n) where
          inside_own : at < length (get_or blocks i b).items
          inside_own = rw (sym items_of) inside

          there : (d : OpenFile) → get_or (all_opens blocks) (count_before blocks i + at) d ≡ get_or opens at d
          there d = at_joined i at b d within inside_own ∙ ap (λ xs. get_or xs at d) (sym items_of)

          pub lies_there : ((d : OpenFile) → (get_or opens at d).pass ≡ pass)
              → position (is_open n pass) (all_opens blocks) ≡ Some (count_before blocks i + at)
          lies_there made =
              own_open (all_opens blocks) ascending n pass (count_before blocks i + at) (in_joined i at b within inside_own)
              (λ d. ap (λ o. o.number) (there d) ∙ has d) (λ d. ap (λ o. o.pass) (there d) ∙ made d)

          pub of_other : ((d : OpenFile) → (get_or opens at d).pass ≢ pass) → position (is_open n pass) (all_opens blocks) ≡ None
          of_other other =
              of_another (all_opens blocks) ascending n pass (count_before blocks i + at) (in_joined i at b within inside_own)
              (λ d. ap (λ o. o.number) (there d) ∙ has d) (λ d same. other d (sym (ap (λ o. o.pass) (there d)) ∙ same))

-- if all blocks end below a number, no open has it
pub none_past : (blocks : List Block) → IsAscending (all_opens blocks) → AreFilled blocks → (n pass i : ℕ) → i ≡ length blocks
    → ((k : ℕ) (b : Block) → k < i → ends_below n (get_or blocks k b) ≡ true) → position (is_open n pass) (all_opens blocks) ≡ None
none_past [] ascending filled n pass i all lower = refl
none_past (x ∷ blocks) ascending filled n pass i all lower =
    unnumbered (all_opens (x ∷ blocks)) n pass (past_all (x ∷ blocks) ascending filled n x (λ k within. lower k x (omega arith)))

-- an open taken out of a block is taken out of all
pub joined_remove : (blocks : List Block) (i at : ℕ) (b new : Block) → i < length blocks → at < length (get_or blocks i b).items
    → new.items ≡ remove (get_or blocks i b).items at
    → all_opens (set blocks i new) ≡ remove (all_opens blocks) (count_before blocks i + at)
joined_remove [] i at b new within inside is = absurd (omega arith)
joined_remove (x ∷ blocks) zero at b new within inside is =
    let place : at ≡ count_before (x ∷ blocks) 0 + at = omega arith in
    ap (λ xs. xs ++ all_opens blocks) is ∙ sym (remove-append_left x.items (all_opens blocks) at inside) ∙ ap
    (remove (x.items ++ all_opens blocks)) place
joined_remove (x ∷ blocks) (suc i) at b new within inside is =
    let rest : all_opens (set blocks i new) ≡ remove (all_opens blocks) (count_before blocks i + at) =
    joined_remove blocks i at b new (omega arith) inside is in
    let long : length (x.items ++ all_opens (take i blocks)) ≡ length x.items + count_before blocks i = length-append x.items _ in
    let moved : remove (x.items ++ all_opens blocks) (length (x.items ++ all_opens (take i blocks)) + at) ≡ x.items
    ++ remove (all_opens blocks) (length (x.items ++ all_opens (take i blocks)) + at - length x.items) =
    remove-append_right x.items (all_opens blocks) (length x.items) _ refl (omega arith) in
    let place : length (x.items ++ all_opens (take i blocks)) + at - length x.items ≡ count_before blocks i + at = omega arith in
    ap (λ xs. x.items ++ xs) rest ∙ sym (moved ∙ ap (λ k. x.items ++ remove (all_opens blocks) k) place)

-- a block that has the same opens
pub joined_same : (blocks : List Block) (i : ℕ) (b new : Block) → i < length blocks → new.items ≡ (get_or blocks i b).items
    → all_opens (set blocks i new) ≡ all_opens blocks
joined_same [] i b new within is = absurd (omega arith)
joined_same (x ∷ blocks) zero b new within is = rw is refl
joined_same (x ∷ blocks) (suc i) b new within is = ap (λ xs. x.items ++ xs) (joined_same blocks i b new (omega arith) is)

nothing : (opens : List OpenFile) → length opens ≡ 0 → opens ≡ []
nothing [] is = refl
nothing (x ∷ opens) is = absurd (omega arith)

-- an empty block is dropped
pub joined_drop : (blocks : List Block) (i : ℕ) (b : Block) → i < length blocks → length (get_or blocks i b).items ≡ 0
    → all_opens (remove blocks i) ≡ all_opens blocks
joined_drop [] i b within is = absurd (omega arith)
joined_drop (x ∷ blocks) zero b within is = rw (nothing x.items is) refl
joined_drop (x ∷ blocks) (suc i) b within is = ap (λ xs. x.items ++ xs) (joined_drop blocks i b (omega arith) is)

-- an open more in the last block
pub joined_push : (blocks : List Block) (last : ℕ) (b new : Block) (o : OpenFile) → last + 1 ≡ length blocks
    → new.items ≡ (get_or blocks last b).items ++ o ∷ [] → all_opens (set blocks last new) ≡ all_opens blocks ++ o ∷ []
joined_push [] last b new o end is = absurd (omega arith)
joined_push (x ∷ []) zero b new o end is = rw is (append-nil (x.items ++ o ∷ []) ∙ sym (ap (λ xs. xs ++ o ∷ []) (append-nil x.items)))
joined_push (x ∷ y ∷ blocks) zero b new o end is = absurd (omega arith)
joined_push (x ∷ blocks) (suc last) b new o end is =
    ap (λ xs. x.items ++ xs) (joined_push blocks last b new o (omega arith) is) ∙ sym (append_assoc x.items (all_opens blocks) (o ∷ []))

-- ascending numbers below n are at most so many
pub few : (opens : List OpenFile) (n : ℕ) → IsAscending opens → All (λ o. o.number < n) opens → length opens ≤ n
few [] n ascending below = omega arith
few (x ∷ opens) n ascending below =
    let own : length opens ≤ (get_or (x ∷ opens) (length opens) x).number = counts (x ∷ opens) ascending (length opens) x (omega arith) in
    let less : (get_or (x ∷ opens) (length opens) x).number < n = below (length opens) x (omega arith) in
    omega arith
  where
    counts : (opens : List OpenFile) → IsAscending opens → (k : ℕ) (d : OpenFile) → k < length opens → k ≤ (get_or opens k d).number
    counts opens ascending zero d within = omega arith
    counts opens ascending (suc k) d within =
        let rest : k ≤ (get_or opens k d).number = counts opens ascending k d (omega arith) in
        let less : (get_or opens k d).number < (get_or opens (suc k) d).number = ascending k (suc k) d (omega arith) within in
        omega arith

-- the open at a place of a block
pub lies : (blocks : List Block) (i at : ℕ) (b : Block) → HasOpen blocks i at → b ≡ get_or blocks i b → (o : OpenFile)
    → o ≡ get_or b.items at o → Some o ≡ slice_get (all_opens blocks) (count_before blocks i + at)
lies blocks i at b has_open is o own =
    sym (slice_get_read (all_opens blocks) (length (all_opens blocks)) (count_before blocks i + at) o refl
    (in_joined blocks i at b has_open.block (has_open.inside b))
    (own ∙ ap (λ x. get_or x.items at o) is ∙ sym (at_joined blocks i at b o has_open.block (has_open.inside b))))

pub lies_at : (blocks : List Block) (i at : ℕ) (b : Block) → HasOpen blocks i at → b ≡ get_or blocks i b → (xs : List OpenFile)
    → xs ≡ b.items → (d : OpenFile) → Some (get_or xs at d) ≡ slice_get (all_opens blocks) (count_before blocks i + at)
lies_at blocks i at b has_open is xs own d =
    let inside : at < length b.items = omega (arith, has_open.inside b, ap (λ x. length x.items) is) in
    ap (λ l. Some (get_or l at d)) own ∙ lies blocks i at b has_open is (get_or b.items at d)
    (get_or_default b.items at d (get_or b.items at d) inside)

-- the last block has room only if there is one
pub room_some : (blocks : List Block) → 0 < last_room blocks → 0 < length blocks
room_some [] room = absurd (omega arith)
room_some (x ∷ blocks) room = omega arith

-- the last block has the room that it was given
pub room_last : (blocks : List Block) (last : ℕ) (new : Block) → last + 1 ≡ length blocks → new.len + 1 ≤ new.cap
    → 0 < last_room (set blocks last new)
room_last blocks last new end room =
    let place : length (set blocks last new) - 1 ≡ last = omega (arith, length-set blocks last new) in
    let at : slice_get (set blocks last new) (length (set blocks last new) - 1) ≡ Some new =
    ap (slice_get (set blocks last new)) place ∙ slice_get-get_or (set blocks last new) last new
    (omega (arith, length-set blocks last new)) ∙ ap Some (get_or-set_at blocks last last new new refl (omega arith)) in
    rw at (omega arith)

-- one open more, whose number is above all others
pub with_one : (blocks new : List Block) (count : ℕ) (o : OpenFile) → InBlocks blocks count → AreBelow o.number (all_opens blocks)
    → all_opens new ≡ all_opens blocks ++ o ∷ [] → AreFilled new → InBlocks new (count + 1)
with_one blocks new count o kept below is filled = record {
  ascending =
      rw is (all_pairs_push (λ one later. one.number < later.number) (all_opens blocks) o kept.ascending (λ k d within. below k d within));
  filled = filled;
  counted = omega (arith, ap length is, length-append (all_opens blocks) (o ∷ []), kept.counted);
}

-- one open less
pub without_one : (blocks new : List Block) (count i at : ℕ) → InBlocks blocks count → HasOpen blocks i at
    → all_opens new ≡ remove (all_opens blocks) (count_before blocks i + at) → AreFilled new → InBlocks new (count - 1)
without_one [] new count i at kept has_open is filled = let none : i < 0 = has_open.block in absurd (omega arith)
without_one (x ∷ blocks) new count i at kept has_open is filled =
    let within : count_before (x ∷ blocks) i + at < length (all_opens (x ∷ blocks)) =
    in_joined (x ∷ blocks) i at x has_open.block (has_open.inside x) in
    record {
      ascending =
          rw is (all_pairs_remove (λ one later. one.number < later.number) (all_opens (x ∷ blocks)) (count_before (x ∷ blocks) i + at)
          within kept.ascending);
      filled = filled;
      counted = omega (arith, ap length is, length-remove (all_opens (x ∷ blocks)) (count_before (x ∷ blocks) i + at) within, kept.counted);
    }

-- an open of a block is on the file
pub is_on_here : (blocks : List Block) (i : ℕ) (b : Block) (file : ℕ) → i < length blocks → is_on (get_or blocks i b).items file ≡ true
    → is_on (all_opens blocks) file ≡ true
is_on_here [] i b file within own = absurd (omega arith)
is_on_here (x ∷ blocks) zero b file within own = list_any-append (λ o. o.file == file) x.items (all_opens blocks) ∙ rw own refl
is_on_here (x ∷ blocks) (suc i) b file within own = by (is_on x.items file) refl (is_on_here blocks i b file (omega arith) own)
  where
    by : (here : Bool) → is_on x.items file ≡ here → is_on (all_opens blocks) file ≡ true → is_on (all_opens (x ∷ blocks)) file ≡ true
    by true here later = list_any-append (λ o. o.file == file) x.items (all_opens blocks) ∙ rw here refl
    by false here later = list_any-append (λ o. o.file == file) x.items (all_opens blocks) ∙ rw (here, later) refl
