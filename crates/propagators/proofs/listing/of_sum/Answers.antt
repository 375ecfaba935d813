use Rattle.propagators.proofs.ListingLaws.{stands_new}
use Rattle.propagators.proofs.listing.of_sum.Goals as goal

pub returns-in-Ok-clause-stands : goal.returns-in-Ok-clause-stands
returns-in-Ok-clause-stands c = λ t. stands_new _ c.in-Ok.sum.seen t c.in-Ok.ensures.seen c.in-Ok.ensures.stands
