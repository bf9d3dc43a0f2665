use Rattle.std.proofs.Common.{◌≡◌, ◌+◌, length, take, drop, refl, sym, ◌∙◌, rules}
use Rattle.sc_text.specs.declared.front.Front.TheVariants.{Token}
use Rattle.sc_text.specs.Fronts.{front, after_gap}
use Rattle.sc_text.specs.Bytes.{line_feeds}
use Rattle.sc_text.specs.Answers.{token_start, token_line}
use Rattle.sc_text.proofs.Found.{front_found, token_some}
use Rattle.sc_text.proofs.lexer.Lexer.advance.Goals as goal

pub returns-in-Nothing : goal.returns-in-Nothing
returns-in-Nothing c =
    (rw (← c.self.view_is) (front_found c.self.inside.last c.self.inside.rest.now _ _ c.gap_at-found.ensures.gap c.split_at.ensures.back (sym c.front_at.ensures.value ∙ c.in-Nothing.is)), refl)

pub returns-in-Open : goal.returns-in-Open
returns-in-Open c =
    (rw (← c.self.view_is) (front_found c.self.inside.last c.self.inside.rest.now _ _ c.gap_at-found.ensures.gap c.split_at.ensures.back (sym c.front_at.ensures.value ∙ c.in-Open.is)), refl)

pub returns-in-Broken : goal.returns-in-Broken
returns-in-Broken c =
    let start : c.self.inside.start + length c.split_at.result.0.now ≡ token_start c.args.self.now = search rules in
    let line : c.self.inside.line + c.line_feeds.result ≡ token_line c.args.self.now = search rules in
    (rw (← c.self.view_is) (front_found c.self.inside.last c.self.inside.rest.now _ _ c.gap_at-found.ensures.gap c.split_at.ensures.back (sym c.front_at.ensures.value ∙ c.in-Broken.is)), refl, start, line)

pub returns-in-Token : goal.returns-in-Token
returns-in-Token c =
    let gone : c.split_at.result.1.now ≡ after_gap c.args.self.now.left = search rules in
    let start : c.self.inside.start + length c.split_at.result.0.now ≡ token_start c.args.self.now = search rules in
    let line : c.self.inside.line + c.line_feeds.result ≡ token_line c.args.self.now = search rules in
    let len : length c.split_at-in-Token.result.0.now ≡ c.in-Token.len = search rules in
    let text : c.split_at-in-Token.result.0.now ≡ take c.in-Token.len (after_gap c.args.self.now.left) = search rules in
    let left : c.split_at-in-Token.result.1.now ≡ drop c.in-Token.len (after_gap c.args.self.now.left) = search rules in
    let start_after : c.self.inside.start + length c.split_at.result.0.now + length c.split_at-in-Token.result.0.now ≡ token_start c.args.self.now + c.in-Token.len = search rules in
    let line_after : c.self.inside.line + c.line_feeds.result + c.line_feeds-in-Token.result ≡ token_line c.args.self.now + line_feeds (take c.in-Token.len (after_gap c.args.self.now.left)) = search rules in
    let found : front c.args.self.now.last c.args.self.now.left ≡ Token c.in-Token.kind c.in-Token.len = rw (← c.self.view_is) (front_found c.self.inside.last c.self.inside.rest.now _ _ c.gap_at-found.ensures.gap c.split_at.ensures.back (sym c.front_at.ensures.value ∙ c.in-Token.is)) in
    (c.in-Token.len, found, record { text = text; len = len; some = token_some c.args.self.now.last c.args.self.now.left c.in-Token.kind c.in-Token.len found; start = start; line = line }, record { left = left; start = start_after; line = line_after; same = search rules })
