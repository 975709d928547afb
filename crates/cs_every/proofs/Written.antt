-- What is written so far, and what is left.
use Rattle.std.proofs.Common.{◌≡◌, ℕ, ◌+◌, ◌<◌, List, [], ◌∷◌, ◌++◌, Option, codes, decimal}
use Rattle.std.proofs.Common.{get_or, map, take, length, refl, sym, ap, ◌∙◌, subst, append_assoc, length-append}
use Rattle.std.proofs.KnownBytes.{Appends-nil, Appends-trans}
use Rattle.std.proofs.lemmas.List.{append-nil, flat_map_more, map-append, take_more}
use Rattle.std.proofs.lemmas.List.Elements.{All-nil, All-push}
use Rattle.std.specs.Io.KnownBytes.{Appends}
use Rattle.std.specs.List.{Contains}
use Rattle.cs_sets.specs.declared.row.Row.{Row}
use Rattle.cs_sets.specs.Places.{places_of}
use Rattle.cs_every.specs.Drawn.{WritesSample}
use Rattle.cs_every.specs.Texts.{others_text, pick_line, picks_text}

-- ---- a line

-- the text that is written, and that of what is left, are the text of all
pub record IsPart (old new : Option (List ℕ)) (left all : List ℕ) : Type 0 where
  pub text : List ℕ
  pub written : Appends old new text
  pub whole : text ++ left ≡ all

pub part_none : (old : Option (List ℕ)) (all : List ℕ) → IsPart old old all all
part_none old all = record { text = []; written = Appends-nil old; whole = refl }

pub part_more : (old now new : Option (List ℕ)) (left more rest all : List ℕ) → IsPart old now left all → Appends now new more → left
    ≡ more ++ rest
    → IsPart old new rest all
part_more old now new left more rest all part written e = record {
  text = part.text ++ more;
  written = Appends-trans old now new part.text more part.written written;
  whole = append_assoc part.text more rest ∙ ap (λ v. part.text ++ v) (sym e) ∙ part.whole;
}

pub part_whole : (old new : Option (List ℕ)) (left all : List ℕ) → IsPart old new left all → left ≡ [] → Appends old new all
part_whole old new left all part e =
    subst (λ v. Appends old new v) (sym (append-nil part.text) ∙ ap (λ v. part.text ++ v) (sym e) ∙ part.whole) part.written

pub three_parts : (old a b new : Option (List ℕ)) (x y z all : List ℕ) → Appends old a x → Appends a b y → Appends b new z
    → x ++ (y ++ z) ≡ all → Appends old new all
three_parts old a b new x y z all p q r e =
    subst (λ v. Appends old new v) e (Appends-trans old a new x (y ++ z) p (Appends-trans a b new y z q r))

-- the text of one more place
pub others_more : (old now new : Option (List ℕ)) (places : List ℕ) (i : ℕ) → i < length places
    → Appends old now (others_text (take i places)) → Appends now new (codes "," ++ decimal (get_or places i 0))
    → Appends old new (others_text (take (i + 1) places))
others_more old now new places i there before written =
    subst (λ v. Appends old new v)
    (flat_map_more (λ k. codes "," ++ decimal k) [] (take i places) (get_or places i 0) ∙ ap others_text (sym (take_more places i 0 there)))
    (Appends-trans old now new (others_text (take i places)) (codes "," ++ decimal (get_or places i 0)) before written)

-- ---- sets

-- the sets that were passed, and those that are left, are all
pub record IsPassed (count : ℕ) (left all : List (List ℕ)) : Type 0 where
  pub done : List (List ℕ)
  pub long : length done ≡ count
  pub whole : done ++ left ≡ all

pub passed_none : (all : List (List ℕ)) → IsPassed 0 all all
passed_none all = record { done = []; long = refl; whole = refl }

pub passed_more : (count : ℕ) (left rest all : List (List ℕ)) (x : List ℕ) → IsPassed count left all → left ≡ x ∷ rest
    → IsPassed (count + 1) rest all
passed_more count left rest all x passed e = record {
  done = passed.done ++ x ∷ [];
  long = length-append passed.done (x ∷ []) ∙ ap (λ v. v + 1) passed.long;
  whole = append_assoc passed.done (x ∷ []) rest ∙ ap (λ v. passed.done ++ v) (sym e) ∙ passed.whole;
}

pub passed_long : (count : ℕ) (left all : List (List ℕ)) → IsPassed count left all → length all ≡ count + length left
passed_long count left all passed =
    ap length (sym passed.whole) ∙ length-append passed.done left ∙ ap (λ v. v + length left) passed.long

-- the text of one more set
pub rows_more : (old now new : Option (List ℕ)) (rows : List Row) (i : ℕ) (d : Row) → i < length rows
    → Appends old now (picks_text (map places_of (take i rows))) → Appends now new (pick_line (places_of (get_or rows i d)))
    → Appends old new (picks_text (map places_of (take (i + 1) rows)))
rows_more old now new rows i d there before written =
    let row = get_or rows i d in
    subst (λ v. Appends old new v)
    (flat_map_more pick_line [] (map places_of (take i rows)) (places_of row)
    ∙ ap picks_text (sym (map-append places_of (take i rows) (row ∷ [])))
    ∙ ap (λ v. picks_text (map places_of v)) (sym (take_more rows i d there)))
    (Appends-trans old now new (picks_text (map places_of (take i rows))) (pick_line (places_of row)) before written)

-- ---- a sample

pub sample_more : (sets : List (List ℕ)) (count : ℕ) (old now new : Option (List ℕ)) (x : List ℕ) → WritesSample sets count old now
    → Contains sets x → Appends now new (pick_line x) → WritesSample sets (count + 1) old new
sample_more sets count old now new x sample there written = record {
  drawn = sample.drawn ++ x ∷ [];
  long = length-append sample.drawn (x ∷ []) ∙ ap (λ v. v + 1) sample.long;
  members = All-push (Contains sets) sample.drawn x sample.members there;
  written = subst (λ v. Appends old new v) (flat_map_more pick_line [] sample.drawn x)
      (Appends-trans old now new (picks_text sample.drawn) (pick_line x) sample.written written);
}

pub sample_none : (sets : List (List ℕ)) (old : Option (List ℕ)) → WritesSample sets 0 old old
sample_none sets old = record { drawn = []; long = refl; members = All-nil (Contains sets); written = Appends-nil old }
