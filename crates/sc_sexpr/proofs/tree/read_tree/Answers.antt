use Rattle.std.proofs.Common.{length}
use Rattle.sc_sexpr.specs.Trees.{place_of}
use Rattle.sc_sexpr.proofs.ReadTree.{Gives, next_token, only_tokens, falls, fits, read, reads_more}
use Rattle.sc_sexpr.proofs.tree.read_tree.Goals as goal

pub unreachable-requires : goal.unreachable-requires
unreachable-requires c =
    only_tokens c.loop-token.lexer c.next.new.self c.next.result c.loop-token.invariant.rest (length c.loop-token.lists.items) c.next.ensures.answers c.in_default.not-Token c.loop-token.invariant.left c.loop-token.invariant.close

pub take-requires : goal.take-requires
take-requires c =
    let gives : Gives c.loop-token.lexer c.in-Token.token c.next.new.self c.loop-token.invariant.rest = next_token c.loop-token.lexer c.next.new.self c.in-Token.token c.loop-token.invariant.rest (length c.loop-token.lists.items) c.in-Token.ensures.answers c.loop-token.invariant.left c.loop-token.invariant.close in
    fits (place_of c.args.text.now c.args.line) c.loop-token.lexer c.next.new.self c.loop-token.lists.items c.in-Token.token c.loop-token.invariant gives

pub returns-in-Ok-Some : goal.returns-in-Ok-Some
returns-in-Ok-Some c =
    let gives : Gives c.loop-token.lexer c.in-Token.token c.next.new.self c.loop-token.invariant.rest = next_token c.loop-token.lexer c.next.new.self c.in-Token.token c.loop-token.invariant.rest (length c.loop-token.lists.items) c.in-Token.ensures.answers c.loop-token.invariant.left c.loop-token.invariant.close in
    read (place_of c.args.text.now c.args.line) c.loop-token.lexer c.next.new.self c.loop-token.lists.items c.take.new.lists.items c.in-Token.token c.in-Ok-Some.tree c.loop-token.invariant gives (rw c.in-Ok-Some.field-0-is at c.in-Ok-Some.ensures)

pub loop-token-smaller : goal.loop-token-smaller
loop-token-smaller c = falls c.loop-token.lexer c.next.new.self c.in-Token.token c.in-Token.ensures.answers

pub loop-token-preserved : goal.loop-token-preserved
loop-token-preserved c =
    let gives : Gives c.loop-token.lexer c.in-Token.token c.next.new.self c.loop-token.invariant.rest = next_token c.loop-token.lexer c.next.new.self c.in-Token.token c.loop-token.invariant.rest (length c.loop-token.lists.items) c.in-Token.ensures.answers c.loop-token.invariant.left c.loop-token.invariant.close in
    reads_more (place_of c.args.text.now c.args.line) c.loop-token.lexer c.next.new.self c.loop-token.lists.items c.take.new.lists.items c.in-Token.token c.loop-token.invariant gives (rw c.in-Ok-None.field-0-is at c.in-Ok-None.ensures)
