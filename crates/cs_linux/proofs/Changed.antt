-- What is changed of a message, and what stays.
use Rattle.std.proofs.Common.{refl, ap, sym, subst, ◌∙◌, ◌≡◌, ◌≢◌, ℕ, List, [], Bool, true, false}
use Rattle.std.proofs.lemmas.Bool.{false≢true}
use Rattle.std.specs.Borrow.{Bor}
use Rattle.std.specs.Cow.{cow_str_bytes}
use Rattle.std.specs.declared.borrow.CowStr.TheVariants.{Borrowed}
use Rattle.cs_wire.specs.declared.kind.RKind.{RKind}
use Rattle.cs_wire.specs.declared.kind.RKind.TheVariants as rk
use Rattle.cs_wire.specs.declared.kind.TKind.TheVariants as tk
use Rattle.cs_wire.specs.declared.message.RBody.{RBody}
use Rattle.cs_wire.specs.declared.message.RBody.TheVariants as r
use Rattle.cs_wire.specs.declared.message.Stat.{Stat}
use Rattle.cs_wire.specs.declared.message.TBody.{TBody}
use Rattle.cs_wire.specs.declared.message.TBody.TheVariants as t
use Rattle.cs_wire.specs.Fields.{Value}
use Rattle.cs_wire.specs.Messages.{Message, r_layout, r_view, replies, stat_of, t_view}
use Rattle.cs_linux.specs.Messages.{IsLinuxText, as_user_asked, as_client_means, error_message}

-- what is meant by a Twstat
pub meant_wstat : (tag fid : ℕ) (stat new : Stat) → stat_of new ≡ as_user_asked (stat_of stat) → t_view record {
  tag = tag;
  body = t.Wstat fid new;
} ≡ as_client_means (t_view record { tag = tag; body = t.Wstat fid stat })
meant_wstat tag fid stat new e = ap (λ s. record { kind = tk.Wstat; tag = tag; fields = (fid, s) }) e

-- every other request is meant as it is
pub meant_other : (tag : ℕ) (body : TBody) → ((fid : ℕ) (stat : Stat) → body ≢ t.Wstat fid stat) → t_view record {
  tag = tag;
  body = body;
} ≡ as_client_means (t_view record { tag = tag; body = body })
meant_other tag (t.Wstat fid stat) is_none = absurd (is_none fid stat refl)
meant_other tag (t.Version msize version) is_none = refl
meant_other tag (t.Auth afid uname aname) is_none = refl
meant_other tag (t.Attach fid afid uname aname) is_none = refl
meant_other tag (t.Flush oldtag) is_none = refl
meant_other tag (t.Walk fid newfid wname) is_none = refl
meant_other tag (t.Open fid mode) is_none = refl
meant_other tag (t.Create fid name perm mode) is_none = refl
meant_other tag (t.Read fid offset count) is_none = refl
meant_other tag (t.Write fid offset bytes) is_none = refl
meant_other tag (t.Clunk fid) is_none = refl
meant_other tag (t.Remove fid) is_none = refl
meant_other tag (t.Stat fid) is_none = refl

-- the text of an Rerror's fields
text_in : (kind : RKind) → Value (r_layout kind) → List ℕ
text_in rk.Error text = text
text_in kind fields = []

is_error : RKind → Bool
is_error rk.Error = true
is_error kind = false

-- the text of an Rerror is that of its fields, and its tag is
pub same_text_of : (tag other : ℕ) (text told : List ℕ) → error_message tag text ≡ error_message other told → text ≡ told
unfolding text_in
same_text_of tag other text told e = ap (λ (m : Message replies). text_in m.kind m.fields) e

pub same_tag : (tag other : ℕ) (text told : List ℕ) → error_message tag text ≡ error_message other told → tag ≡ other
same_tag tag other text told e = ap (λ (m : Message replies). m.tag) e

-- no other reply is an Rerror
pub no_error : (tag : ℕ) (body : RBody) → ((ename : _) → body ≢ r.Error ename) → (other : ℕ) (text : List ℕ) → r_view record {
  tag = tag;
  body = body;
} ≢ error_message other text
unfolding is_error
no_error tag (r.Error ename) is_none other text e = absurd (is_none ename refl)
no_error tag (r.Version msize version) is_none other text e = false≢true (ap (λ (m : Message replies). is_error m.kind) e)
no_error tag (r.Auth aqid) is_none other text e = false≢true (ap (λ (m : Message replies). is_error m.kind) e)
no_error tag (r.Attach qid) is_none other text e = false≢true (ap (λ (m : Message replies). is_error m.kind) e)
no_error tag r.Flush is_none other text e = false≢true (ap (λ (m : Message replies). is_error m.kind) e)
no_error tag (r.Walk wqid) is_none other text e = false≢true (ap (λ (m : Message replies). is_error m.kind) e)
no_error tag (r.Open qid iounit) is_none other text e = false≢true (ap (λ (m : Message replies). is_error m.kind) e)
no_error tag (r.Create qid iounit) is_none other text e = false≢true (ap (λ (m : Message replies). is_error m.kind) e)
no_error tag (r.Read bytes) is_none other text e = false≢true (ap (λ (m : Message replies). is_error m.kind) e)
no_error tag (r.Write count) is_none other text e = false≢true (ap (λ (m : Message replies). is_error m.kind) e)
no_error tag r.Clunk is_none other text e = false≢true (ap (λ (m : Message replies). is_error m.kind) e)
no_error tag r.Remove is_none other text e = false≢true (ap (λ (m : Message replies). is_error m.kind) e)
no_error tag (r.Stat stat) is_none other text e = false≢true (ap (λ (m : Message replies). is_error m.kind) e)
no_error tag r.Wstat is_none other text e = false≢true (ap (λ (m : Message replies). is_error m.kind) e)

-- what the client gets of an Rerror
pub told_error : (tag : ℕ) (body made : RBody) (ename : _) (short : Bor (List ℕ)) → body ≡ r.Error ename → made ≡ r.Error (Borrowed short)
    → IsLinuxText (cow_str_bytes ename) short.now → (other : ℕ) (text : List ℕ) → r_view record {
      tag = tag;
      body = body;
    } ≡ error_message other text
    → (new : List ℕ) × IsLinuxText text new × (r_view record { tag = tag; body = made } ≡ error_message other new)
told_error tag body made ename short is made_is told other text e =
    let whole : error_message tag (cow_str_bytes ename) ≡ error_message other text = ap (λ (b : RBody). r_view record {
      tag = tag;
      body = b;
    }) (sym is) ∙ e in (
      short.now,
      subst (λ t. IsLinuxText t short.now) (same_text_of tag other (cow_str_bytes ename) text whole) told,
      ap
          (λ (b : RBody). r_view record {
            tag = tag;
            body = b;
          }) made_is ∙ ap (λ t. error_message t short.now) (same_tag tag other (cow_str_bytes ename) text whole),
    )
