use Rattle.std.proofs.Common.{◌≡◌, ℕ, false, true, List, [], ◌++◌, map, refl, sym, ap, ◌∙◌, arith, append-nil, Vec, Global, rules}
use Rattle.sc_sexpr.specs.View.{View, keeping, fed}
use Rattle.sc_sexpr.specs.Scans.{items_of}
use Rattle.sc_sexpr.specs.Lines.{Lines, lines_with, joined_pieces}
use Rattle.sc_sexpr.proofs.Noting.{note_feed, note_all}
use Rattle.sc_sexpr.proofs.lines.lines_of.Goals as goal

abbrev it : Vec ℕ Global → List ℕ
it v = v.items

abbrev whole : ℕ → List (Vec ℕ Global) → List ℕ → Lines
whole limit pieces more = lines_with [] (items_of limit (joined_pieces (map it pieces) ++ more))

all : (limit : ℕ) (pieces : List (Vec ℕ Global)) → lines_with [] (items_of limit (joined_pieces (map it pieces))) ≡ whole limit pieces []
all limit pieces = ap (λ xs. lines_with [] (items_of limit xs)) (sym (append-nil (joined_pieces (map it pieces))))

pub loop-piece-preserved : goal.loop-piece-preserved
loop-piece-preserved c =
    let fed_is : c.feed.new.self ≡ keeping c.feed.new.self.kept (fed c.loop-piece.splitter (it c.piece-item.result)) = search rules in
    let still : c.feed.new.self.last ≡ false = search rules in
    record {
      notes = λ more. note_feed it (whole c.args.limit c.args.pieces.now) c.loop-piece.lines.items c.loop-piece.splitter c.feed.new.self c.args.pieces.now c.piece-item.result c.loop-piece.piece-index c.loop-piece.invariant.notes c.loop-piece-test.true c.piece-item.is fed_is more
          ∙ (rw c.in-Ok-None.field-0-is at c.in-Ok-None.ensures.drains) _ (λ t. cc);
      open_still = c.drain.ensures.last ∙ still;
    }

pub returns-in-Ok-Some : goal.returns-in-Ok-Some
returns-in-Ok-Some c =
    let fed_is : c.feed.new.self ≡ keeping c.feed.new.self.kept (fed c.loop-piece.splitter (it c.piece-item.result)) = search rules in
    let still : c.feed.new.self.last ≡ false = search rules in
    all c.args.limit c.args.pieces.now
    ∙ note_feed it (whole c.args.limit c.args.pieces.now) c.loop-piece.lines.items c.loop-piece.splitter c.feed.new.self c.args.pieces.now c.piece-item.result c.loop-piece.piece-index c.loop-piece.invariant.notes c.loop-piece-test.true c.piece-item.is fed_is []
    ∙ (rw c.in-Ok-Some.field-0-is at c.in-Ok-Some.ensures.drains) _ (λ t. cc)

pub returns-in-Ok-Some-drain : goal.returns-in-Ok-Some-drain
returns-in-Ok-Some-drain c =
    all c.args.limit c.args.pieces.now
    ∙ note_all it (whole c.args.limit c.args.pieces.now) c.loop-piece.lines.items c.loop-piece.splitter c.finish.new.self c.args.pieces.now c.loop-piece.piece-index c.loop-piece.invariant.notes (omega arith) c.finish.ensures
    ∙ (rw c.in-Ok-Some-drain.field-0-is at c.in-Ok-Some-drain.ensures.drains) [] (λ t. refl)

pub unreachable-requires : goal.unreachable-requires
unreachable-requires c =
    let none : c.finish.new.self.last ≡ false = c.in-Ok-None-drain.ensures.more c.in-Ok-None-drain.field-0-is in
    let last : c.finish.new.self.last ≡ true = ap (λ (v : View). v.last) c.finish.ensures in
    cc
