-- `chain_from` meets its contract: each way out is the first check that holds.
use Rattle.lists.proofs.Kit.{◌≡◌, ◌∙◌, sym, ◌<◌, length, arith, rules}
use Rattle.std.proofs.Common.{tests}
use Rattle.refusals.specs.Conditions.{no_swap, first_place}
use Rattle.sheets.specs.Sheet.{chain_word}
use Rattle.sheets.specs.Read.{read_line}
use Rattle.reader.specs.Private.{numbers_of}
use Rattle.reader.proofs.HeadLines.{Zeros, stored_before_zeros, line_told, same_items, chain_form, chain_count, chain_long, chain_bad, chain_go}
use Rattle.reader.proofs.head.chain_from.Goals as goal

pub returns-in_err-rest-clause-told : goal.returns-in_err-rest-clause-told
returns-in_err-rest-clause-told c =
    let none = rw c.in_err-rest.ensures.ok_part at c.line_from.ensures in
    line_told _ c.from_residual.result _ c.from_residual.ensures 2 c.in_err-rest.ensures.value c.in_err-rest.ensures.ok_part c.bad_line.ensures
    ∙ sym (chain_form c.args.bytes.now c.tabs_in-count.ensures none.0)

pub returns-then-count-gt-MOST_SWAPS-clause-told : goal.returns-then-count-gt-MOST_SWAPS-clause-told
returns-then-count-gt-MOST_SWAPS-clause-told c =
    let found = rw c.in_ok-rest.ensures.ok_part at c.line_from.ensures in
    rw c.from.ensures (sym (chain_long c.args.bytes.now c.tabs_in-count.ensures found.0 (search)))

pub returns-in-Some-clause-told : goal.returns-in-Some-clause-told
returns-in-Some-clause-told c =
    let found = rw c.in_ok-rest.ensures.ok_part at c.line_from.ensures in
    let bs = c.args.bytes.now in
    let n = c.tabs_in-count.result in
    let us = numbers_of (read_line chain_word n bs) in
    let long : length us ≡ n = chain_count bs c.tabs_in-count.ensures found.0 in
    let stored : Zeros us n c.map-swaps.result =
    rw (same_items c.map-swaps.ensures.items (search rules) (λ p x y q. search (rules, tests))) (stored_before_zeros us n long (found.2 (omega arith))) in
    let h : (c.in-Some.place < length us) × (c.in-Some.place ≡ first_place (no_swap 4) us) = rw stored.front at c.in-Some.ensures in
    sym (chain_bad bs c.tabs_in-count.ensures found.0 (search) h.0 h.1)

pub returns-in-None-clause-told : goal.returns-in-None-clause-told
returns-in-None-clause-told c =
    let found = rw c.in_ok-rest.ensures.ok_part at c.line_from.ensures in
    let bs = c.args.bytes.now in
    let n = c.tabs_in-count.result in
    let us = numbers_of (read_line chain_word n bs) in
    let long : length us ≡ n = chain_count bs c.tabs_in-count.ensures found.0 in
    let stored : Zeros us n c.map-swaps.result =
    rw (same_items c.map-swaps.ensures.items (search rules) (λ p x y q. search (rules, tests))) (stored_before_zeros us n long (found.2 (omega arith))) in
    let h : first_place (no_swap 4) us ≡ length us = rw stored.front at c.in-None.ensures in
    rw stored.front (sym (chain_go bs c.tabs_in-count.ensures found.0 (search) h))

pub returns-in-None-clause-padded : goal.returns-in-None-clause-padded
returns-in-None-clause-padded c =
    let found = rw c.in_ok-rest.ensures.ok_part at c.line_from.ensures in
    let bs = c.args.bytes.now in
    let n = c.tabs_in-count.result in
    let us = numbers_of (read_line chain_word n bs) in
    let long : length us ≡ n = chain_count bs c.tabs_in-count.ensures found.0 in
    let stored : Zeros us n c.map-swaps.result =
    rw (same_items c.map-swaps.ensures.items (search rules) (λ p x y q. search (rules, tests))) (stored_before_zeros us n long (found.2 (omega arith))) in
    record { few = search; zeros = rw stored.front stored.zeros }
