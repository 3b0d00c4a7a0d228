-- `path::certificates::steps` meets its contract. Assumes nothing.
use borrow.Author.Rules.{rules}
use Rattle.number.specs.Octets.{Octets}
use Rattle.path.proofs.Bridging.{certificate_refused, certificate_lacks, certificate_inherits, read_few}
use Rattle.path.proofs.certificates.steps.Goals as goal

pub returns-in-Err : goal.returns-in-Err
returns-in-Err c =
    let ip : Octets c.args.ip.now = unfold Octets in (λ i. (c.type_inv.ip i).fits) in
    let ids : Octets c.args.ids.now = unfold Octets in (λ i. (c.type_inv.ids i).fits) in
    search (certificate_refused, rules)

pub returns-in-Some : goal.returns-in-Some
returns-in-Some c =
    let ip : Octets c.args.ip.now = unfold Octets in (λ i. (c.type_inv.ip i).fits) in
    let ids : Octets c.args.ids.now = unfold Octets in (λ i. (c.type_inv.ids i).fits) in
    search (certificate_lacks, rules)

pub inherit-requires : goal.inherit-requires
inherit-requires c =
    let ip : Octets c.args.ip.now = unfold Octets in (λ i. (c.type_inv.ip i).fits) in
    let ids : Octets c.args.ids.now = unfold Octets in (λ i. (c.type_inv.ids i).fits) in
    search (read_few, rules)

pub returns : goal.returns
returns c =
    let ip : Octets c.args.ip.now = unfold Octets in (λ i. (c.type_inv.ip i).fits) in
    let ids : Octets c.args.ids.now = unfold Octets in (λ i. (c.type_inv.ids i).fits) in
    search (certificate_inherits, rules)
