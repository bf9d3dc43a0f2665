-- The items behind the script are those of the bytes there.
use Rattle.std.proofs.Common.{◌≡◌, ℕ, true, List, [], ◌∷◌, ◌++◌, None, refl, sym, ap, ◌∙◌, append_assoc, append-nil, subst}
use Rattle.std.specs.List.{AllByRecursion, flat_map}
use Rattle.sc_text.specs.Readings.{Lexeme, Reads, Whole}
use Rattle.sc_text.proofs.Readings.{one}
use Rattle.sc_sexpr.specs.declared.item.Item.TheVariants as item
use Rattle.sc_sexpr.specs.Scans.{Piece, start}
use Rattle.sc_sexpr.specs.Spots.{AtHand}
use Rattle.sc_sexpr.specs.View.{View, widened, answer}
use Rattle.sc_sexpr.specs.Walk.{IsBetween}
use Rattle.sc_sexpr.specs.Laws.{GivesItem, AreItems}
use Rattle.sc_sexpr.specs.Given.{GivesAll, HaveTokens, HaveAllTokens, AreItemsOf as AreGivenOf}
use Rattle.sc_deriv_text.specs.Sexpr.{plain, tokens_of}
use Rattle.sc_deriv_text.proofs.ReadBack.{told_reads}
use Rattle.sc_session.specs.Scripts.{Item, AreTold, most_bytes}
use Rattle.sc_check.specs.Reports.{most_more, IsWhole, Next, Gives, none, more}
use Rattle.sc_check.specs.Transcripts.{IsToldItem, AreItemsOf, HaveSameTokens}
use Rattle.sc_check.proofs.Unended.{not_over}

-- ---- the items up to the end
-- the items that are given to the end, as pieces of the text
record ToEnd (v : View) (is : List Item) : Type 0 where
  pieces : List Piece
  told : AreTold pieces is
  gives : GivesAll v pieces

next_to_end : (v x : View) (i : Item) (is : List Item) → Next v i x → ToEnd x is → ToEnd v (i ∷ is)
next_to_end v x i is n e = record {
  pieces = record { text = n.text; line = i.line } ∷ e.pieces;
  told = (n.told, e.told);
  gives = (x, record { item = n.item; view = n.view; given = n.given }, e.gives);
}

to_end : (v w : View) (is later : List Item) → Gives v is w → ToEnd w later → ToEnd v (is ++ later)
to_end v w is later none e = e
to_end v x is later (more before w z i g n) e = subst (ToEnd v) (sym (append_assoc before (i ∷ []) later)) (to_end v w before (i ∷ later) g (next_to_end w z i later n e))

all_to_end : (v w : View) (is : List Item) → Gives v is w → (answer w).item ≡ item.End → ToEnd v is
all_to_end v w is g e = subst (ToEnd v) (append-nil is) (to_end v w is [] g (record { pieces = []; told = tt; gives = e }))

module _ (give : AreItems) (all : HaveAllTokens) where
  -- the bytes of the item at hand lead to the state
  abbrev IsReady : View → Type 0
  IsReady v = AtHand v.state v.text

  whole_ready : (v : View) (text : List ℕ) → IsWhole v text → IsReady v
  whole_ready v text w = subst (λ s. AtHand s v.text) (sym w.state) (subst (λ t. AtHand start t) (sym w.at_hand) (give.begins most_bytes))

  next_ready : (v x : View) (i : Item) → IsReady v → Next v i x → IsReady x
  next_ready v x i r n = subst (λ (y : View). AtHand y.state y.text) (sym n.view) (give.stays v r)

  gives_ready : (v w : View) (is : List Item) → IsReady v → Gives v is w → IsReady w
  gives_ready v w is r none = r
  gives_ready v x is r (more before w z i g n) = next_ready w z i (gives_ready v w before r g) n

  next_between : (v x : View) (i : Item) → IsReady v → Next v i x → IsBetween x.state × (x.text ≡ []) × (x.over ≡ None)
  next_between v x i r n =
      let given : GivesItem (item.Top i.line) (answer v).view = subst (λ a. GivesItem a (answer v).view) n.item (give.gives v r) in
      subst (λ (y : View). IsBetween y.state × (y.text ≡ []) × (y.over ≡ None)) (sym n.view) (given.2, given.3, not_over v i.line n.item)

  -- ---- the items behind one
  same_tokens : (ps : List Piece) (is : List Item) (tokens : List (List Lexeme)) → AreTold ps is → HaveTokens ps tokens → flat_map (λ ts. ts) tokens ≡ flat_map (λ i. tokens_of (plain i.shape)) is
  same_tokens [] [] [] told have = refl
  same_tokens [] [] (t ∷ ts) told have = absurd have
  same_tokens [] (i ∷ is) tokens told have = absurd told
  same_tokens (p ∷ ps) [] tokens told have = absurd told
  same_tokens (p ∷ ps) (i ∷ is) [] told have = absurd have
  same_tokens (p ∷ ps) (i ∷ is) (t ∷ ts) told have =
      let here : t ≡ tokens_of (plain i.shape) = (one true p.text t (tokens_of (plain i.shape)) Whole Whole have.0 (told_reads p.text p.line i.shape told.0.tokens).0).0 in
      ap (λ x. x ++ flat_map (λ ts. ts) ts) here ∙ ap (λ x. tokens_of (plain i.shape) ++ x) (same_tokens ps is ts told.1 have.1)

  told_items : (ps : List Piece) (is : List Item) → AreTold ps is → AllByRecursion IsToldItem is
  told_items [] [] told = tt
  told_items [] (i ∷ is) told = absurd told
  told_items (p ∷ ps) [] told = absurd told
  told_items (p ∷ ps) (i ∷ is) told = ((p, told.0), told_items ps is told.1)

  items_of_text : (bytes unread : List ℕ) (is : List Item) (ps : List Piece) → AreTold ps is → AreGivenOf unread ps → HaveSameTokens bytes unread → AreItemsOf bytes is
  items_of_text bytes unread is ps told given same = record {
    told = told_items ps is told;
    tokens =
        let tokens_are = (one true unread same.tokens (flat_map (λ ts. ts) given.tokens) Whole Whole same.second given.all).0 in
        subst (λ ts. Reads true bytes ts Whole) (tokens_are ∙ same_tokens ps is given.tokens told given.each) same.first;
  }

  -- the items that come behind an item up to the end
  pub covered : (v w x y : View) (text bytes : List ℕ) (before is : List Item) (i : Item) → IsWhole v text → Gives v before w → Next w i x → Gives (widened x most_more) is y → (answer y).item ≡ item.End → HaveSameTokens bytes x.unread → AreItemsOf bytes is
  covered v w x y text bytes before is i whole first n gives end same =
      let ready = gives_ready v w before (whole_ready v text whole) first in
      let between = next_between w x i ready n in
      let e = all_to_end (widened x most_more) y is gives end in
      items_of_text bytes x.unread is e.pieces e.told (all.splitters (widened x most_more) between.0 between.1 between.2 e.pieces e.gives) same
