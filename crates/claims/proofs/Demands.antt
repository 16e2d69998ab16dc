-- All demands, of every sheet; those on accepted sheets by what acceptance promises.
-- Assumes nothing.
use Rattle.net.proofs.Connection.{connected-leads, leads-connected}
use Rattle.sheet.proofs.Accepted.{promised}
use Rattle.claims.specs.Demands.{Demands}
use Rattle.claims.proofs.Sheets.{sheet-answered, sheet-starts}
use Rattle.claims.proofs.Answers.{demand1, demand2}
use Rattle.claims.proofs.Records.{soundness}
use Rattle.claims.proofs.Sessions.{demand3}
use Rattle.claims.proofs.Counts.{session-totals}
use Rattle.claims.proofs.Published.{demand2-published}
use Rattle.claims.proofs.Pages.{pages}
use Rattle.claims.proofs.LiveList.{live-listed, booked}
use Rattle.claims.proofs.Blocks.{blocks}
use Rattle.claims.proofs.WayBack.{ways}
use Rattle.claims.proofs.Lamps.{lamps-claimed}
use Rattle.claims.proofs.Spread.{spreads}
use Rattle.claims.proofs.Listing.{listings}
use Rattle.claims.proofs.Serials.{serials}

pub demands : Demands
demands = record {
  connection = λ bs p q. (connected-leads bs p q, leads-connected bs p q);
  sheets = sheet-answered;
  starts = sheet-starts;
  demand1 = demand1;
  demand2 = demand2;
  published = demand2-published;
  soundness = λ s accepted. soundness s accepted (promised s accepted).rule;
  demand3 = λ s accepted. demand3 s accepted (promised s accepted).rule;
  totals = λ s accepted. session-totals s accepted (promised s accepted).rule;
  pages = pages;
  lists = live-listed;
  booked = λ s accepted. booked s accepted (promised s accepted).rule;
  serials = λ s accepted. serials s accepted (promised s accepted).rule;
  blocks = blocks;
  ways = ways;
  lamps = lamps-claimed;
  spreads = spreads;
  listings = listings;
}
