-- The parts of a file, one after another.
use Rattle.std.proofs.Common.{◌≡◌, List, [], ◌∷◌, ◌++◌, Option, Some, None, option_and_then, option_map, refl, sym, ap, ◌∙◌, append_assoc, append-nil}
use Rattle.serde_json.specs.Data.{Data, Items, item}
use Rattle.cs_trace_lines.specs.Lines.{part_in, parts_of}
use Rattle.cs_trace_lines.specs.Sparse.{Part}
use Rattle.cs_trace_lines.specs.declared.version.Version.{Version}

-- these parts, and then those of the rest
abbrev pub after : List Part → Option (List Part) → Option (List Part)
after front rest = option_map (λ ps. front ++ ps) rest

pub after_none : (rest : Option (List Part)) → after [] rest ≡ rest
after_none None = refl
after_none (Some ps) = refl

-- one part more in front of the rest
pub after_one : (front : List Part) (p : Part) (rest : Option (List Part))
    → after front (option_map (λ ps. p ∷ ps) rest) ≡ after (front ++ p ∷ []) rest
after_one front p None = refl
after_one front p (Some ps) = ap Some (sym (append_assoc front (p ∷ []) ps))

pub after_all : (front : List Part) → after front (Some []) ≡ Some front
after_all front = ap Some (append-nil front)

-- the first value is a part more
pub after_next : (version : Version) (front : List Part) (d : Data) (rest : Items) (p : Part) → part_in version d ≡ Some p
    → after (front ++ p ∷ []) (parts_of version rest) ≡ after front (parts_of version (item d rest))
after_next version front d rest p is =
    sym (after_one front p (parts_of version rest))
    ∙ ap (λ part. after front (option_and_then (λ p. option_map (λ ps. p ∷ ps) (parts_of version rest)) part)) (sym is)

-- a value that is no part
pub none_after : (version : Version) (front : List Part) (d : Data) (rest : Items) → part_in version d ≡ None
    → after front (parts_of version (item d rest)) ≡ None
none_after version front d rest is =
    ap (λ part. after front (option_and_then (λ p. option_map (λ ps. p ∷ ps) (parts_of version rest)) part)) is
