mod Ends
mod FiveWords
mod Keyed
mod Letters
mod LobbyPlans
mod Numbers
mod OneForm
mod Plans
