-- `firstsplit::base::send_plants` meets its contract. Assumes nothing.
use mathlib.Core.Path.{refl}
use native.Mathlib.Omega.{arith}
use Rattle.firstsplit.proofs.FirstSplit.{run_stuck, run_sent, second_stops, first_over, rest_fits, second_sent, rest_stuck, first_done}
use Rattle.firstsplit.proofs.base.send_plants.Goals as goal

pub ship-requires : goal.ship-requires
ship-requires c =
    let b = c.requires.sending in record { start_lt_m = omega (arith, c.requires.le_m); stocked = b.stocked; short = λ j h. omega (arith, b.cols j h); covers = c.requires.covers }

pub returns-then-ship-gt0 : goal.returns-then-ship-gt0
returns-then-ship-gt0 c = record { first_done = run_stuck c.requires.le_m c.requires.plants_ready c.requires.sending c.ship.ensures.ship_done c.if-ship-gt0.true; covers_2 = c.ship.ensures.covers_2 }

pub ship-short-requires : goal.ship-short-requires
ship-short-requires c =
    let two = c.requires.le_m in
    let r = c.requires.plants_ready in
    let b0 = c.requires.sending in
    let s1 = c.ship.ensures.ship_done in
    let b1 = run_sent two r b0 s1 c.if-ship-gt0.false in record { start_lt_m = omega (arith, two); stocked = b1.stocked; short = λ j h. omega (arith, b1.cols j h); covers = c.ship.ensures.covers_2 }

pub returns-then-most-short : goal.returns-then-most-short
returns-then-most-short c =
    let two = c.requires.le_m in
    let r = c.requires.plants_ready in
    let b0 = c.requires.sending in
    let s1 = c.ship.ensures.ship_done in
    let b1 = run_sent two r b0 s1 c.if-ship-gt0.false in
    let em = c.min-most.ensures in
    let s2 = c.ship-short.ensures.ship_done in record { first_done = second_stops two r b1 em s2 c.if-most-short.true; covers_2 = c.ship-short.ensures.covers_2 }

pub returns-then-supply-split : goal.returns-then-supply-split
returns-then-supply-split c =
    let two = c.requires.le_m in
    let r = c.requires.plants_ready in
    let b0 = c.requires.sending in
    let s1 = c.ship.ensures.ship_done in
    let b1 = run_sent two r b0 s1 c.if-ship-gt0.false in
    let em = c.min-most.ensures in
    let s2 = c.ship-short.ensures.ship_done in record { first_done = first_over two r b1 em s2 c.if-supply-split.true; covers_2 = c.ship-short.ensures.covers_2 }

pub overflow_sub-split-3 : goal.overflow_sub-split-3
overflow_sub-split-3 c =
    let two = c.requires.le_m in
    let r = c.requires.plants_ready in
    let b0 = c.requires.sending in
    let s1 = c.ship.ensures.ship_done in
    let b1 = run_sent two r b0 s1 c.if-ship-gt0.false in
    let em = c.min-most.ensures in
    let s2 = c.ship-short.ensures.ship_done in
    rest_fits two r b1 em s2

pub ship-requires-2 : goal.ship-requires-2
ship-requires-2 c =
    let two = c.requires.le_m in
    let r = c.requires.plants_ready in
    let b0 = c.requires.sending in
    let s1 = c.ship.ensures.ship_done in
    let b1 = run_sent two r b0 s1 c.if-ship-gt0.false in
    let em = c.min-most.ensures in
    let s2 = c.ship-short.ensures.ship_done in
    let b2 = second_sent two r b1 em s2 in record { start_lt_m = omega (arith, two); stocked = b2.stocked; short = λ j h. omega (arith, b2.cols j h); covers = c.ship-short.ensures.covers_2 }

pub returns-then-ship-gt0-2 : goal.returns-then-ship-gt0-2
returns-then-ship-gt0-2 c =
    let two = c.requires.le_m in
    let r = c.requires.plants_ready in
    let b0 = c.requires.sending in
    let s1 = c.ship.ensures.ship_done in
    let b1 = run_sent two r b0 s1 c.if-ship-gt0.false in
    let em = c.min-most.ensures in
    let s2 = c.ship-short.ensures.ship_done in record { first_done = rest_stuck two r b1 em s2 refl c.ship-2.ensures.ship_done c.if-ship-gt0-2.true; covers_2 = c.ship-2.ensures.covers_2 }

pub returns : goal.returns
returns c =
    let two = c.requires.le_m in
    let r = c.requires.plants_ready in
    let b0 = c.requires.sending in
    let s1 = c.ship.ensures.ship_done in
    let b1 = run_sent two r b0 s1 c.if-ship-gt0.false in
    let em = c.min-most.ensures in
    let s2 = c.ship-short.ensures.ship_done in record { first_done = first_done two r b1 em s2 refl c.ship-2.ensures.ship_done c.if-ship-gt0-2.false c.if-most-short.false c.if-supply-split.false; covers_2 = c.ship-2.ensures.covers_2 }
