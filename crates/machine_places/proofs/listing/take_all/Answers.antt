use Rattle.std.proofs.Common.{◌≡◌, map, length, sym, ap, ◌∙◌, arith, Some}
use Rattle.machine_places.specs.Laid.{place_of}
use Rattle.machine_places.proofs.Taken.{board_there, pages_there, ports_there}
use Rattle.machine_places.proofs.listing.take_all.Goals as goal

pub take_each-requires-clause-pages : goal.take_each-requires-clause-pages
take_each-requires-clause-pages c =
    let a = c.requires.all in
    omega (arith, ap length (pages_there (map place_of c.args.places.items) a.0 a.1 a.2 a.3), a.4)

pub take_each-requires-clause-ports : goal.take_each-requires-clause-ports
take_each-requires-clause-ports c =
    let a = c.requires.all in
    omega (arith, ap length (ports_there (map place_of c.args.places.items) a.0 a.1 a.2 a.3), a.5)

pub unreachable-requires : goal.unreachable-requires
unreachable-requires c =
    let a = c.requires.all in
    let clash = sym c.in_default.is ∙ c.take_each.ensures.board ∙ board_there (map place_of c.args.places.items) a.0 a.1 a.2 a.3 in
    cc

pub returns : goal.returns
returns c = record {
  all = λ ps ms b are.
      let list = map place_of c.args.places.items in
      let there : Some c.in-Some.board ≡ Some b = sym c.in-Some.is ∙ c.take_each.ensures.board ∙ board_there list ps ms b are in
      let board : c.in-Some.board ≡ b = cc in
      (c.take_each.ensures.pages ∙ pages_there list ps ms b are, c.take_each.ensures.ports ∙ ports_there list ps ms b are, board);
}
