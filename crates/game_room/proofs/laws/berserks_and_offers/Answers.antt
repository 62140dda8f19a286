use Rattle.game_room.proofs.BerserkLaws.{berserk_means}
use Rattle.game_room.proofs.OfferLaws.{offered_means}
use Rattle.game_room.proofs.StandingOffers.{offer_means}
use Rattle.game_room.proofs.laws.berserks_and_offers.Goals as goal

pub returns-clause-berserk : goal.returns-clause-berserk
returns-clause-berserk c h events side = berserk_means h events side

pub returns-clause-offered : goal.returns-clause-offered
returns-clause-offered c h events side = offered_means h events side

pub returns-clause-offer : goal.returns-clause-offer
returns-clause-offer c h events side = offer_means h events side
