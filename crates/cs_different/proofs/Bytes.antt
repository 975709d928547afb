-- Files that are the same below an offset.
use Rattle.std.proofs.Common.{◌≡◌, ℕ, ◌+◌, ◌<◌, ◌≤◌, ltb, Bool, true, false, cond, List}
use Rattle.std.proofs.Common.{refl, sym, ap, ◌∙◌, ⊎_elim, arith, length, take, get_or}
use Rattle.std.proofs.lemmas.Bool.{cases_lt}
use Rattle.std.proofs.lemmas.List.{get_or-take, get_or_past, length-take}
use Rattle.cs_micro.specs.declared.micro_op.MicroOp.{MicroOp}
use Rattle.cs_micro.specs.declared.micro_op.MicroOp.TheVariants.{CreateDirEntry, DeleteDirEntry, MoveDirEntry, LinkDirEntry, ChangeFileSize}
use Rattle.cs_micro.specs.declared.micro_op.MicroOp.TheVariants.{WriteBlock, SetAttr, Say}
use Rattle.cs_apm.specs.Contents.{changes_file, content_after, content_after_op}
use Rattle.cs_apm.specs.States.{Content, content_with_size, overwritten}
use Rattle.cs_state.specs.Windows.{byte_of}
use Rattle.cs_state.proofs.Showing.{byte_before, byte_behind, byte_inside}

-- of one size, with the same bytes below the offset
pub record AreSameBelow (limit : ℕ) (f g : Content) : Type 0 where
  pub size : f.size ≡ g.size
  pub bytes : (i : ℕ) → i < limit → byte_of f i ≡ byte_of g i

pub same_itself : (limit : ℕ) (f : Content) → AreSameBelow limit f f
same_itself limit f = record { size = refl; bytes = λ i low. refl }

taken : (xs ys : List ℕ) (to i : ℕ) → get_or xs i 0 ≡ get_or ys i 0 → get_or (take to xs) i 0 ≡ get_or (take to ys) i 0
taken xs ys to i e = ⊎_elim
    (λ (low : i < to). get_or-take to xs i 0 low ∙ e ∙ sym (get_or-take to ys i 0 low))
    (λ (high : to ≤ i). past high xs ∙ sym (past high ys))
    (cases_lt i to)
  where
    past : to ≤ i → (zs : List ℕ) → get_or (take to zs) i 0 ≡ 0
    past high zs = get_or_past (take to zs) i 0 (let l = length-take to zs in omega (arith, l, high))

sized : (limit to : ℕ) (f g : Content) → AreSameBelow limit f g → AreSameBelow limit (content_with_size to f) (content_with_size to g)
sized limit to f g same = record {
  size = refl;
  bytes = λ i low. by i low (ltb to f.size) (ltb to g.size) (ap (ltb to) same.size);
}
  where
    by : (i : ℕ) → i < limit → (a b : Bool) → a ≡ b
        → get_or (cond a (take to f.bytes) f.bytes) i 0 ≡ get_or (cond b (take to g.bytes) g.bytes) i 0
    by i low true true e = taken f.bytes g.bytes to i (same.bytes i low)
    by i low false false e = same.bytes i low
    by i low true false e = absurd (cc e)
    by i low false true e = absurd (cc e)

written : (limit at : ℕ) (new : List ℕ) (f g : Content) → AreSameBelow limit f g
    → AreSameBelow limit (overwritten at new f) (overwritten at new g)
written limit at new f g same = record {
  size = same.size;
  bytes = λ i low. ⊎_elim
      (λ (l : i < at). byte_before at new f i l ∙ same.bytes i low ∙ sym (byte_before at new g i l))
      (λ (h : at ≤ i). ⊎_elim
      (λ (l : i < at + length new). byte_inside at new f i h l ∙ sym (byte_inside at new g i h l))
      (λ (b : at + length new ≤ i). byte_behind at new f i b ∙ same.bytes i low ∙ sym (byte_behind at new g i b))
      (cases_lt i (at + length new)))
      (cases_lt i at);
}

op_same : (limit : ℕ) (o : MicroOp) (f g : Content) → AreSameBelow limit f g
    → AreSameBelow limit (content_after_op f o) (content_after_op g o)
op_same limit (ChangeFileSize file to) f g same = sized limit to f g same
op_same limit (WriteBlock file block start at bytes) f g same = written limit (start + at) bytes f g same
op_same limit (CreateDirEntry e node rights bytes) f g same = same
op_same limit (DeleteDirEntry e node) f g same = same
op_same limit (MoveDirEntry a b node old) f g same = same
op_same limit (LinkDirEntry e kind file old half) f g same = same
op_same limit (SetAttr target rights) f g same = same
op_same limit Say f g same = same

-- a micro-operation keeps files the same
pub after_same : (n limit : ℕ) (o : MicroOp) (f g : Content) → AreSameBelow limit f g
    → AreSameBelow limit (content_after n f o) (content_after n g o)
after_same n limit o f g same = by (changes_file n o)
  where
    by : (b : Bool) → AreSameBelow limit (cond b (content_after_op f o) f) (cond b (content_after_op g o) g)
    by true = op_same limit o f g same
    by false = same

-- a write from the offset on changes nothing below it
pub past_same : (limit at : ℕ) (new : List ℕ) (f g : Content) → limit ≤ at → AreSameBelow limit f g
    → AreSameBelow limit (overwritten at new f) g
past_same limit at new f g high same = record {
  size = same.size;
  bytes = λ i low. byte_before at new f i (omega (arith, low, high)) ∙ same.bytes i low;
}
