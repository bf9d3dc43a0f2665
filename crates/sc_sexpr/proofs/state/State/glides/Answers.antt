use Rattle.std.proofs.Common.{rules, length, ap, ◌∙◌, ◌≡◌, ◌<◌, get_or, true}
use Rattle.sc_sexpr.specs.Passes.{is_blank}
use Rattle.sc_sexpr.proofs.Through.{left_glides, right_glides, feed_glides, blank_glides}
use Rattle.sc_sexpr.proofs.state.State.glides.Goals as goal

pub returns-in-40 : goal.returns-in-40
returns-in-40 c =
    let lt : c.args.at < length c.args.rest.now = search rules in
    let byte : get_or c.args.rest.now c.args.at 0 ≡ 40 = search rules in
    left_glides c.args.rest.now c.args.self c.args.at c.requires.between lt byte c.if-self-lt-DEPTH.true

pub returns-in-41 : goal.returns-in-41
returns-in-41 c =
    let lt : c.args.at < length c.args.rest.now = search rules in
    let byte : get_or c.args.rest.now c.args.at 0 ≡ 41 = search rules in
    right_glides c.args.rest.now c.args.self c.args.at c.requires.between lt byte c.if-self-gt1.true

pub returns-in-10 : goal.returns-in-10
returns-in-10 c =
    let lt : c.args.at < length c.args.rest.now = search rules in
    let byte : get_or c.args.rest.now c.args.at 0 ≡ 10 = search rules in
    feed_glides c.args.rest.now c.args.self c.args.at c.requires.between lt byte

pub returns-in_default : goal.returns-in_default
returns-in_default c =
    let lt : c.args.at < length c.args.rest.now = search rules in
    let byte : get_or c.args.rest.now c.args.at 0 ≡ c.in_ok-byte.field-0.now = search rules in
    let blank : is_blank c.in_ok-byte.field-0.now ≡ true = search rules in
    blank_glides c.args.rest.now c.args.self c.args.at c.requires.between lt (ap is_blank byte ∙ blank)
