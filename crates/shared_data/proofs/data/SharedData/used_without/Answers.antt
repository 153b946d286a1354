use Rattle.std.proofs.Common.{arith}
use Rattle.shared_data.proofs.Seeing.{standing, left_none, left_some, some_fits}
use Rattle.shared_data.proofs.data.SharedData.used_without.Goals as goal

pub overflow_add-result : goal.overflow_add-result
overflow_add-result c =
    let now = standing c.self.inside.map.entries c.self.inside.next c.self.inside.bytes c.len-names.result c.args.self.now c.self.view_is c.self.invariant c.len-names.ensures.len in
    let fit = some_fits c.args.key.now c.args.found c.in-Some.found now c.requires c.in-Some.is in
    omega (arith, fit.0, fit.2)

pub overflow_sub-result-in-Some : goal.overflow_sub-result-in-Some
overflow_sub-result-in-Some c =
    let now = standing c.self.inside.map.entries c.self.inside.next c.self.inside.bytes c.len-names.result c.args.self.now c.self.view_is c.self.invariant c.len-names.ensures.len in
    (some_fits c.args.key.now c.args.found c.in-Some.found now c.requires c.in-Some.is).0

pub overflow_sub-result : goal.overflow_sub-result
overflow_sub-result c =
    let now = standing c.self.inside.map.entries c.self.inside.next c.self.inside.bytes c.len-names.result c.args.self.now c.self.view_is c.self.invariant c.len-names.ensures.len in
    (some_fits c.args.key.now c.args.found c.in-Some.found now c.requires c.in-Some.is).1

pub returns-in-None-clause-names : goal.returns-in-None-clause-names
returns-in-None-clause-names c =
    let now = standing c.self.inside.map.entries c.self.inside.next c.self.inside.bytes c.len-names.result c.args.self.now c.self.view_is c.self.invariant c.len-names.ensures.len in
    (left_none c.args.key.now c.args.found now c.requires c.in-None.is).names

pub returns-in-None-clause-bytes : goal.returns-in-None-clause-bytes
returns-in-None-clause-bytes c =
    let now = standing c.self.inside.map.entries c.self.inside.next c.self.inside.bytes c.len-names.result c.args.self.now c.self.view_is c.self.invariant c.len-names.ensures.len in
    (left_none c.args.key.now c.args.found now c.requires c.in-None.is).bytes_are

pub returns-in-Some-clause-names : goal.returns-in-Some-clause-names
returns-in-Some-clause-names c =
    let now = standing c.self.inside.map.entries c.self.inside.next c.self.inside.bytes c.len-names.result c.args.self.now c.self.view_is c.self.invariant c.len-names.ensures.len in
    (left_some c.args.key.now c.args.found c.in-Some.found now c.requires c.in-Some.is).names

pub returns-in-Some-clause-bytes : goal.returns-in-Some-clause-bytes
returns-in-Some-clause-bytes c =
    let now = standing c.self.inside.map.entries c.self.inside.next c.self.inside.bytes c.len-names.result c.args.self.now c.self.view_is c.self.invariant c.len-names.ensures.len in
    (left_some c.args.key.now c.args.found c.in-Some.found now c.requires c.in-Some.is).bytes_are
