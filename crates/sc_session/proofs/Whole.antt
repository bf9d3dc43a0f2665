-- The items of a whole text are items for a reader of trees.
use Rattle.std.proofs.Common.{◌≡◌, ℕ, zero, suc, ◌≤◌, true, false, List, [], length, Option, Some, None, refl, sym, ap, ◌∙◌, append-nil, subst, arith}
use Rattle.sc_sexpr.specs.declared.item.Item.{Item}
use Rattle.sc_sexpr.specs.declared.item.Item.TheVariants as item
use Rattle.sc_sexpr.specs.declared.item.Last.{Last}
use Rattle.sc_sexpr.specs.Scans.{items_of}
use Rattle.sc_sexpr.specs.Spots.{AtHand}
use Rattle.sc_sexpr.specs.View.{View, fed, fresh_view, answer}
use Rattle.sc_sexpr.specs.Laws.{reading_of, reading_by, behind, GivesItem, IsReader, AreItems as GiveItems}
use Rattle.sc_session.specs.Scripts.{Script, Reads, most_bytes}
use Rattle.sc_session.proofs.Trees.{AreItems, some_script}

-- where no more bytes come, what is left to read is the same whether this is known
abbrev closed_off : View → View
closed_off v = record v { last = true }

same_reading : (o : Option Last) (v : View) → reading_by o (closed_off v) [] ≡ reading_by o v []
same_reading None v = refl
same_reading (Some l) v = refl

-- ---- all items
module _ (reader : IsReader) (give : GiveItems) where
  -- the items are those behind the first answer, where fewer are left
  items_by : (n : ℕ) → ((w : View) → AtHand w.state w.text → suc (length (reading_of w []).tops) ≤ n → AreItems (reading_of w []).tops) → (v w : View) (i : Item) → i ≡ (answer v).item → v.last ≡ true → AtHand w.state w.text → GivesItem i w → reading_of v [] ≡ behind i w [] → length (reading_of v []).tops ≤ n → AreItems (reading_of v []).tops
  items_by n go v w (item.Top line) is last hand given e le =
      subst (λ r. AreItems r.tops) (sym e) (given.1, go w hand (subst (λ r. length r.tops ≤ n) e le))
  items_by n go v w item.More is last hand given e le = absurd (let f : v.last ≡ false = reader.waits v (sym is) in cc)
  items_by n go v w item.End is last hand given e le = subst (λ r. AreItems r.tops) (sym e) tt
  items_by n go v w (item.Bad f) is last hand given e le = subst (λ r. AreItems r.tops) (sym e) tt

  first_item : (n : ℕ) → ((w : View) → AtHand w.state w.text → suc (length (reading_of w []).tops) ≤ n → AreItems (reading_of w []).tops) → (v : View) → AtHand v.state v.text → length (reading_of v []).tops ≤ n → AreItems (reading_of v []).tops
  first_item n go v hand le =
      subst (λ r. AreItems r.tops) (same_reading v.over v)
      (items_by n go (closed_off v) (answer (closed_off v)).view (answer (closed_off v)).item refl refl (give.stays (closed_off v) hand) (give.gives (closed_off v) hand) (reader.answers (closed_off v) [] (λ e. refl)) (subst (λ r. length r.tops ≤ n) (sym (same_reading v.over v)) le))

  items_from : (n : ℕ) (v : View) → AtHand v.state v.text → length (reading_of v []).tops ≤ n → AreItems (reading_of v []).tops
  items_from zero v hand le = first_item zero (λ w h l. absurd (omega (arith, l))) v hand le
  items_from (suc n) v hand le = first_item (suc n) (λ w h l. items_from n w h (omega (arith, l))) v hand le

  -- a text that is fed at once
  abbrev whole : List ℕ → View
  whole text = fed (fresh_view most_bytes) text

  whole_reads : (text : List ℕ) → reading_of (whole text) [] ≡ items_of most_bytes text
  whole_reads text = reader.feeds (fresh_view most_bytes) text [] ∙ ap (reading_of (fresh_view most_bytes)) (append-nil text) ∙ reader.begins most_bytes text

  pub text_reads : (text : List ℕ) → (s : Script) × Reads text s
  text_reads text = some_script (items_of most_bytes text) (subst (λ r. AreItems r.tops) (whole_reads text) (items_from (length (reading_of (whole text) []).tops) (whole text) (give.begins most_bytes) (omega arith)))
